-- A command of a list that stands, as it is, in the list of chosen pages too. Assumes nothing.
use Rattle.std.specs.Prelude.{ℕ, ◌≡◌, Bool, List, ◌∷◌, ◌++◌}
use Rattle.commands.specs.Commands.{Command, place}
use Rattle.cutting.specs.CutList.{opening, cut_after}
use Rattle.rewritten.specs.OldWords.{new_place}

-- the command at a place of the old list is also one of the new list, behind what is made of the commands before it, and its place there is the new place (rule 12.6)
pub record SameCommand (old new : List Command) (chosen : ℕ → Bool) (at : ℕ) : Type 0 where
  pub command : Command
  pub before : List Command
  pub later : List Command
  pub new_later : List Command
  pub old_is : old ≡ later ++ (command ∷ before)
  pub old_place : at ≡ place before
  pub new_is : new ≡ new_later ++ (command ∷ cut_after (opening old) chosen before)
  pub new_place_is : new_place chosen old at ≡ place (cut_after (opening old) chosen before)
