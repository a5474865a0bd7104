-- A page's own list of commands, from the list of the whole volume (rule 8.2). Assumes nothing.
use Rattle.std.specs.Prelude.{ℕ, Bool, cond, not, ◌&&◌, List, [], ◌∷◌, ◌++◌, eqb}
use Rattle.commands.specs.declared.Kind.TheVariants.{Eop}
use Rattle.commands.specs.Commands.{Command, place}
use Rattle.list.specs.Past.{is_a, stage, is_on_page, pages}
use Rattle.turns.specs.Placing.{Located}

-- whether a command is one of a page's own (rule 8.2)
abbrev pub is_on : ℕ → List Command → Command → Bool
is_on page past c = is_on_page (stage past) && (eqb (pages past) page && not (is_a Eop c))

-- the own commands of a page, counted from 1, in their order, each with its place (rule 8.2)
abbrev pub page_of : ℕ → List Command → List Located
page_of page [] = []
page_of page (c ∷ past) = cond (is_on page past c) (page_of page past ++ (record { at = place past; command = c } ∷ [])) (page_of page past)
