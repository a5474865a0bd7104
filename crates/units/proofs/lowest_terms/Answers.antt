-- `units::lowest_terms` meets its contract. Assumes nothing.
use mathlib.Core.Path.{ap}
use Prim.Native.Nat.{ℕ, ◌<◌, ◌/◌}
use Rattle.units.specs.Divisor.{lowest}
use Rattle.units.specs.LowestTerms.{ratio}
use Rattle.units.proofs.Divisor.{gcd_pos}
use Rattle.units.proofs.lowest_terms.Goals as goal

some : (c : goal.After-common_divisor-divisor) → 0 < c.common_divisor-divisor.result
some c = rw c.common_divisor-divisor.ensures (gcd_pos c.args.a c.args.b c.requires)

pub nonzero_div-result : goal.nonzero_div-result
nonzero_div-result c = some c

pub nonzero_div-result-2 : goal.nonzero_div-result-2
nonzero_div-result-2 c = some c

pub returns : goal.returns
unfolding lowest
returns c = ap (λ (g : ℕ). ratio (c.args.a / g) (c.args.b / g)) c.common_divisor-divisor.ensures
