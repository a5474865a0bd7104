-- `converting::converting::is_named` meets its contract: a name is not sixteen zeros where its number is not 0. Assumes nothing.
use mathlib.Core.Bool.{not}
use mathlib.Core.Path.{◌≡◌, ap, ◌∙◌}
use Prim.Native.Nat.{ℕ, ◌+◌}
use borrow.Author.Rules.{rules}
use lib.Dec.{eqb}
use Rattle.names.specs.contracts.NamePartialEq.TheImpl.{eq-value}
use Rattle.names.specs.declared.Name.{Name}
use Rattle.names.specs.Names.{name_number, any_name}
use Rattle.names.proofs.NameLaws.{number_at}
use Rattle.converting.proofs.converting.is_named.Goals as goal

any_number : (name : Name) → eq-value.it name any_name ≡ eqb (name_number name) 0
any_number name = search rules

pub returns : goal.returns
returns c =
    c.ne.ensures ∙ ap not (any_number c.name_at.result)
    ∙ ap (λ (n : ℕ). not (eqb n 0)) (ap name_number c.name_at.ensures.0 ∙ number_at c.args.table.now (c.args.at + 8))
