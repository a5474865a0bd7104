-- A command, its written form, and what stands at the front of a list of bytes. Assumes nothing.
use Rattle.std.specs.Prelude.{ℕ, ◌+◌, ◌<◌, ◌≡◌, cond, List, [], ◌∷◌, ◌++◌, ltb, leb, length, take, drop}
use Rattle.commands.specs.declared.Kind.{Kind}
use Rattle.commands.specs.Kinds.{kind_of}
use Rattle.commands.specs.Lengths.{size_of}

-- an opcode and its parameter bytes (rule 2.1)
pub record Command : Type 0 where
  pub opcode : ℕ
  pub params : List ℕ

-- its kind is its opcode's (rule 2.2)
abbrev pub kind_of_command : Command → Kind
kind_of_command c = kind_of c.opcode

-- a command that has an opcode of one, and just the parameter bytes that belong to it (rule 2.5)
pub record Whole (c : Command) : Type 0 where
  pub defined : c.opcode < 250
  pub exact : length c.params ≡ size_of c.opcode c.params

-- the written form of a command (rule 2.1)
abbrev pub form : Command → List ℕ
form c = c.opcode ∷ c.params

-- the written forms of a list of commands, one right after the other (rule 3.12)
abbrev pub written : List Command → List ℕ
written [] = []
written (c ∷ cs) = form c ++ written cs

-- how many bytes the commands before are written in, the newest first: the place of the next (rule 3.1)
abbrev pub place : List Command → ℕ
place [] = 0
place (c ∷ past) = place past + (1 + length c.params)

-- what stands at the front of some bytes: no whole command, an opcode of none, or a command and what follows it (rule 2.7)
pub data Front : Type 0 where
  cut : Front
  undefined : Front
  whole : Command → List ℕ → Front

-- what stands there after an opcode (rule 2.7)
unfoldable pub front_after : ℕ → List ℕ → Front
front_after opcode rest =
    cond (ltb opcode 250)
    (cond (leb (size_of opcode rest) (length rest))
    (whole (record { opcode = opcode; params = take (size_of opcode rest) rest }) (drop (size_of opcode rest) rest))
    cut)
    undefined

-- what stands at the front: cut is where no byte is left, or fewer than the parameters need (rule 2.7)
abbrev pub front : List ℕ → Front
front [] = cut
front (opcode ∷ rest) = front_after opcode rest
