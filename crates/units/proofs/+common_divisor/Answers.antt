-- `units::common_divisor` meets its contract: its steps are those of the rule. Assumes nothing.
use mathlib.Core.Path.{sym, ap, ◌∙◌}
use native.Mathlib.Omega.{arith}
use Rattle.units.specs.Divisor.{common_divisor}
use Rattle.units.proofs.Divisor.{gcd_zero, gcd_step}
use Rattle.units.proofs.+common_divisor.Goals as goal

pub returns-then-b-eq0 : goal.returns-then-b-eq0
returns-then-b-eq0 t c = sym (ap (common_divisor c.args.a) c.if-b-eq0.true ∙ gcd_zero c.args.a)

pub returns-else-b-eq0 : goal.returns-else-b-eq0
returns-else-b-eq0 t c = c.common_divisor.ensures ∙ sym (gcd_step c.args.a c.args.b (omega arith))
