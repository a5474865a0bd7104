-- Where a font's name stands: what the place that the table tells leads to. Assumes nothing.
use mathlib.Core.Path.{◌≡◌, sym, ap, ◌∙◌}
use mathlib.Core.Bool.{false}
use mathlib.Core.List.{List}
use Prim.Native.Nat.{ℕ, ◌+◌}
use lib.IntN.{ℤ}
use Rattle.std.specs.declared.option.Option.TheVariants.{None, Some}
use Rattle.refusals.specs.Answer.{given}
use Rattle.commands.specs.Commands.{Command}
use Rattle.commands.specs.Fields.{definition_name}
use Rattle.list.specs.declared.Part.{Part}
use Rattle.list.specs.Past.{definition_of}
use Rattle.list.specs.Steps.{place_in, Tells, AllStanding, Lawfully, SayingAt}
use Rattle.list.proofs.FontTables.{told_any, Leads, leads_any}
use Rattle.volume.specs.Names.{named_by}

module _ (file fonts : List ℕ) (number : ℤ) (past : List Command) (tells : Tells false fonts past) (standing : AllStanding file past) (lawfully : Lawfully past) where
  module _ {at : ℕ} (place_is : place_in fonts number ≡ Some at) where
    there : Leads file past number at
    there = leads_any standing number lawfully (sym (told_any fonts number tells lawfully) ∙ place_is)

    -- a definition stands there
    pub said_there : SayingAt file at None → ⊥
    said_there saying = saying there.c there.rest there.ahead there.kind_is

    -- the name is at the end of what it says
    pub name_is : (r : Part) → SayingAt file at (Some r) → given (record { start = r.start + definition_name; end = r.end }) ≡ named_by (definition_of false number past)
    name_is r saying =
        ap (λ (part : Part). given (record { start = part.start + definition_name; end = part.end })) (saying.2 there.c there.rest there.ahead there.kind_is)
        ∙ ap named_by (sym there.defined)
