-- What the entries answer, said of a list of commands in place of a file: nothing here reads bytes. Assumes nothing.
use Rattle.std.specs.Prelude.{ℕ, false, List, ℤ}
use Rattle.refusals.specs.Answer.{Answer}
use Rattle.commands.specs.Commands.{Command}
use Rattle.list.specs.declared.Part.{Part}
use Rattle.list.specs.Past.{pages, definition_of}
use Rattle.volume.specs.OfList.{past_of}
use Rattle.volume.specs.Names.{named_by}
use Rattle.turns.specs.Placing.{Contents}
use Rattle.page.specs.Answers.{placed_in}

-- where the name of a font stands, by the list's definition before post (rule 9.4)
abbrev pub name_in_list : List Command → ℤ → Answer Part
name_in_list cs font = named_by (definition_of false font (past_of cs))

-- one page of the list, with a width table, at a resolution, into an area of so many bytes (rule 9.8)
abbrev pub placed_by : List Command → List ℕ → ℕ → ℕ → ℕ → Answer Contents
placed_by cs table resolution page room = placed_in (past_of cs) table resolution page room (pages (past_of cs))
