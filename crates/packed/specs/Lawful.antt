-- The lists of commands that keep the rules of a PK file, and the files that are written forms of one. They name no reader. Assumes nothing.
use Rattle.std.specs.Prelude.{ℕ, ◌≡◌, true, List, [], ◌∷◌, length}
use Rattle.commands.specs.Commands.{Command, written}
use Rattle.packed.specs.Commands.{param_bytes}
use Rattle.packed.specs.Rules.{ended, font_fault}

-- a command that has just the parameter bytes that belong to its opcode or flag (rule 11.4)
abbrev pub WholeInFont : Command → Type 0
WholeInFont c = length c.params ≡ param_bytes c.opcode c.params

-- after the commands before, a list goes on by the rules, and ends anywhere behind the postamble byte (rule 11.8)
pub data FollowsInFont : List Command → List Command → Type 0 where
  ends : {past : List Command} → ended past ≡ true → FollowsInFont past []
  goes : {past : List Command} {c : Command} {cs : List Command} → WholeInFont c → font_fault past c ≡ 0 → FollowsInFont (c ∷ past) cs → FollowsInFont past (c ∷ cs)

-- a file that is the written form of a list that keeps the rules (rule 11.8)
abbrev pub LawfulFont : List ℕ → Type 0
LawfulFont pk = (cs : List Command) × FollowsInFont [] cs × (written cs ≡ pk)
