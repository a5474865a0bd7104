-- The lists of commands that keep the rules, and the files that are written forms of one. They name no reader. Assumes nothing.
use Rattle.std.specs.Prelude.{ℕ, zero, suc, ◌≤◌, ◌≡◌, true, false, List, [], ◌∷◌, length}
use Rattle.commands.specs.declared.Kind.TheVariants.{PostPost}
use Rattle.commands.specs.Commands.{Command, Whole, written}
use Rattle.commands.specs.Reading.{longest_file}
use Rattle.list.specs.Past.{is_a}
use Rattle.list.specs.Rules.{Allowed}

-- a 223 as a command: it has no parameters (rule 3.10)
abbrev pub filler : Command
filler = record { opcode = 223; params = [] }

-- so many of them (rule 3.10)
abbrev pub fillers : ℕ → List Command
fillers zero = []
fillers (suc n) = filler ∷ fillers n

-- after the commands before, a list goes on by the rules up to post_post and ends with 223s, four or more (rules 3.10, 3.11)
pub data Follows : List Command → List Command → Type 0 where
  ends : {past : List Command} {c : Command} (n : ℕ) → Whole c → Allowed past c → is_a PostPost c ≡ true → 4 ≤ n → Follows past (c ∷ fillers n)
  goes : {past : List Command} {c : Command} {cs : List Command} → Whole c → Allowed past c → is_a PostPost c ≡ false → Follows (c ∷ past) cs → Follows past (c ∷ cs)

-- a list of commands that keeps the rules (rule 3.11)
abbrev pub Keeps : List Command → Type 0
Keeps cs = Follows [] cs

-- a file that is no longer than it may be, and is the written form of a list that keeps the rules (rule 3.12)
abbrev pub Lawful : List ℕ → Type 0
Lawful file = (length file ≤ longest_file) × ((cs : List Command) × Keeps cs × (written cs ≡ file))
