-- Commands as they stand in a file. What the law on an accepted file's commands is stated with. Assumes nothing.
use Rattle.std.specs.Prelude.{ℕ, ◌≡◌, List, [], ◌∷◌, drop}
use Rattle.commands.specs.Commands.{Command, whole, front, place}
use Rattle.list.specs.Rules.{Allowed}

-- the commands of past, the newest first, stand in the file one after the other from its start, and each keeps the rules where it stands (rules 3.1, 3.11)
pub data Trace (file : List ℕ) : List Command → Type 0 where
  start : Trace file []
  more : {past : List Command} (c : Command) (rest : List ℕ) → Trace file past → front (drop (place past) file) ≡ whole c rest → Allowed past c
      → Trace file (c ∷ past)
