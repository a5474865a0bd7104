-- Where and why the bytes of a file are no longer those of a list that keeps the rules: the refusals of the check, said without the check. Assumes nothing.
use Rattle.std.specs.Prelude.{ℕ, ◌+◌, ◌<◌, ◌≤◌, ◌≡◌, true, false, List, [], ◌∷◌, ◌++◌, ◌⊎◌, length, get_or}
use Rattle.refusals.specs.Numbers.{file_too_long, file_ends, undefined_opcode, wrong_tail}
use Rattle.commands.specs.declared.Kind.TheVariants.{PostPost}
use Rattle.commands.specs.Commands.{Command, Whole, form, written, place}
use Rattle.commands.specs.Reading.{longest_file}
use Rattle.list.specs.Past.{is_a}
use Rattle.list.specs.Rules.{fault, Allowed}
use Rattle.list.specs.Lawful.{fillers}

-- after the commands before, no list that keeps the rules goes on with these bytes: the number and the place of that (rules 4.1, 4.2)
pub data RefusesAt : List Command → List ℕ → ℕ → ℕ → Type 0 where
  -- 2: the bytes start with no whole command, and with no opcode of 250 or more
  ends_early : {past : List Command} {bytes : List ℕ} → ((c : Command) (rest : List ℕ) → Whole c → bytes ≡ form c ++ rest → ⊥) → get_or bytes 0 0 < 250
      → RefusesAt past bytes file_ends (place past)
  -- 3: they start with an opcode of 250 or more
  strange : {past : List Command} (opcode : ℕ) (rest : List ℕ) → 250 ≤ opcode → RefusesAt past (opcode ∷ rest) undefined_opcode (place past)
  -- 4 to 10: they start with a whole command that breaks a rule; the lowest number of those that it breaks
  breaks : {past : List Command} {number : ℕ} (c : Command) (rest : List ℕ) → Whole c → fault past c ≡ number → 0 < number
      → RefusesAt past (form c ++ rest) number (place past)
  -- 11: they start with a post_post that keeps the rules, and among what follows is another byte than 223; the place is that byte's
  other_byte : {past : List Command} (c : Command) (n byte : ℕ) (rest : List ℕ) → Whole c → Allowed past c → is_a PostPost c ≡ true → (byte ≡ 223 → ⊥)
      → RefusesAt past (form c ++ (written (fillers n) ++ (byte ∷ rest))) wrong_tail (place (c ∷ past) + n)
  -- 11: or what follows are 223s, but too few; the place is the end
  too_few : {past : List Command} (c : Command) (n : ℕ) → Whole c → Allowed past c → is_a PostPost c ≡ true → n < 4
      → RefusesAt past (form c ++ written (fillers n)) wrong_tail (place (c ∷ past) + n)
  -- they start with another command that keeps the rules, and what follows does not go on
  later : {past : List Command} {number at : ℕ} (c : Command) (rest : List ℕ) → Whole c → Allowed past c → is_a PostPost c ≡ false
      → RefusesAt (c ∷ past) rest number at → RefusesAt past (form c ++ rest) number at

-- a whole file: 1 at 0 where it is too long, else as its bytes from the start on (rules 4.1, 4.2)
abbrev pub FileRefuses : List ℕ → ℕ → ℕ → Type 0
FileRefuses file number at =
    ((longest_file < length file) × (number ≡ file_too_long) × (at ≡ 0)) ⊎ ((length file ≤ longest_file) × RefusesAt [] file number at)
