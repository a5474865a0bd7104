-- `names::sought_name` meets its contract: zeros up to sixteen bytes are enough. Assumes nothing.
use Rattle.names.proofs.NameLaws.{too_long, with_zero, without_zero, filling}
use Rattle.names.specs.Names.{name_at}
use native.Mathlib.Omega.{arith}
use mathlib.Core.List.{List}
use mathlib.Core.Path.{sym, ap, ◌∙◌}
use Prim.Native.Nat.{ℕ}
use Rattle.names.proofs.sought_name.Goals as goal

pub returns-then-name-gt-NAME_SIZE : goal.returns-then-name-gt-NAME_SIZE
returns-then-name-gt-NAME_SIZE c = (too_long c.args.name.now (omega arith), (omega arith, omega arith))

pub returns-then-has_zero : goal.returns-then-has_zero
returns-then-has_zero c = (with_zero c.args.name.now (omega arith) (sym c.has_zero.ensures ∙ c.if-has_zero.true), (omega arith, omega arith))

pub returns : goal.returns
returns c =
    let s = c.before.before.before.before.before.before.before.before.before in
    let name = s.args.name.now in
    (c.name_at.ensures.0 ∙ ap (λ (l : List ℕ). name_at l 0) (c.paste.ensures ∙ filling name (omega arith)) ∙ without_zero name (omega arith) (sym c.has_zero.ensures ∙ c.if-has_zero.false), c.name_at.ensures.1)
