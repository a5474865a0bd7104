-- Where a command stands in a list, and the list of the smallest file. Assumes nothing.
use Rattle.std.specs.Prelude.{◌≡◌, false, List, [], ◌∷◌, ◌++◌, replicate}
use Rattle.commands.specs.declared.Kind.TheVariants.{PostPost}
use Rattle.commands.specs.Commands.{Command}
use Rattle.list.specs.Past.{is_a}
use Rattle.list.specs.Lawful.{fillers}

-- in a list that follows some commands, c stands after those of past, the newest first, and no post_post stands between
pub data StandsAfter (past : List Command) (c : Command) : List Command → List Command → Type 0 where
  first : {cs : List Command} → StandsAfter past c past (c ∷ cs)
  later : {before : List Command} {d : Command} {cs : List Command} → is_a PostPost d ≡ false → StandsAfter past c (d ∷ before) cs
      → StandsAfter past c before (d ∷ cs)

-- c is a command of the list cs, its post_post or one before it, and past are the commands before c, the newest first
abbrev pub StandsAmong : List Command → List Command → Command → Type 0
StandsAmong cs past c = StandsAfter past c [] cs

-- the list of the smallest file: one page without commands
abbrev pub list_of_m : List Command
list_of_m =
    record { opcode = 247; params = 2 ∷ 0 ∷ 0 ∷ 0 ∷ 254 ∷ 0 ∷ 0 ∷ 0 ∷ 1 ∷ 0 ∷ 0 ∷ 3 ∷ 232 ∷ 0 ∷ [] }
    ∷ record { opcode = 139; params = replicate 40 0 ++ (255 ∷ 255 ∷ 255 ∷ 255 ∷ []) }
    ∷ record { opcode = 140; params = [] }
    ∷ record { opcode = 248; params = (0 ∷ 0 ∷ 0 ∷ 15 ∷ 0 ∷ 0 ∷ 0 ∷ 254 ∷ 0 ∷ 0 ∷ 0 ∷ 1 ∷ 0 ∷ 0 ∷ 3 ∷ 232 ∷ []) ++ replicate 8 0 ++ (0 ∷ 0 ∷ 0 ∷ 1 ∷ []) }
    ∷ record { opcode = 249; params = 0 ∷ 0 ∷ 0 ∷ 61 ∷ 2 ∷ [] }
    ∷ fillers 4
