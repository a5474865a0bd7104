-- What a call leaves in the caller's array of numbers, and the code that it returns: one rule for every entry of C. Assumes nothing.
use Rattle.std.specs.Prelude.{ℕ, ◌≤◌, ◌<◌, ◌^◌, ◌≡◌, cond, List, [], ◌∷◌, ◌++◌, ltb, length, drop, ℤ}
use Rattle.refusals.specs.Answer.{Answer, refused, given}
use Rattle.numbers.specs.Signs.{to_twos}
use Rattle.widths.specs.LookUp.{LookUp, found, absent}
use Rattle.commands.specs.declared.Reading.{Reading}
use Rattle.volume.specs.declared.Summary.{Summary}
use Rattle.list.specs.declared.Part.{Part}
use Rattle.placements.specs.declared.Counts.{Counts}

-- ---- the rule

-- what happens where the array has so many numbers at least, and what where it has not: then nothing is judged (rule 10.4)
abbrev pub if_room : {B : Type 0} → ℕ → List ℕ → B → B → B
if_room least array room short = cond (ltb (length array) least) short room

-- 0 for a result, the number of a refusal (rule 10.4)
abbrev pub number_of : {A : Type 0} → Answer A → ℕ
number_of (refused number place) = number
number_of (given a) = 0

-- it is a result (rule 10.4)
abbrev pub Given : {A : Type 0} → Answer A → Type 0
Given (refused number place) = ⊥
Given (given a) = Unit {0}

-- what is returned: 255 where the array is too short (rule 10.4)
abbrev pub code : {A : Type 0} → ℕ → List ℕ → Answer A → ℕ
code least array answer = if_room least array (number_of answer) 255

-- what two of the codes say of the array and the answer; any other code is a refusal's number (rule 10.4)
pub record Tells {A : Type 0} (least : ℕ) (array : List ℕ) (answer : Answer A) : Type 0 where
  pub at_zero : code least array answer ≡ 0 → (least ≤ length array) × Given answer
  pub at_255 : code least array answer ≡ 255 → length array < least

-- the numbers that an answer has: a result's own, or the place of a refusal (rule 10.4)
abbrev pub numbers_of : {A : Type 0} → (A → List ℕ) → Answer A → List ℕ
numbers_of result (refused number place) = place ∷ []
numbers_of result (given a) = result a

-- numbers in front of what an array holds behind them (rule 10.4)
abbrev pub in_front : List ℕ → List ℕ → List ℕ
in_front numbers array = numbers ++ drop (length numbers) array

-- the array after the call: the answer's numbers in front of its own; one that is too short as it was (rule 10.4)
abbrev pub array_after : {A : Type 0} → ℕ → (A → List ℕ) → List ℕ → Answer A → List ℕ
array_after least result array answer = if_room least array (in_front (numbers_of result answer) array) array

-- ---- each entry's result as numbers, 64-bit words

-- a command's opcode, where its parameters start, and the place after them (rule 10.4)
abbrev pub command_numbers : Reading → List ℕ
command_numbers r = r.opcode ∷ r.start ∷ r.next ∷ []

-- how many pages and fonts a file has, the depth it reaches, and where post stands (rule 10.4)
abbrev pub file_numbers : Summary → List ℕ
file_numbers s = s.pages ∷ s.fonts ∷ s.depth ∷ s.post ∷ []

-- one signed number, in two's complement of 64 bits (rule 10.4)
abbrev pub signed_numbers : ℤ → List ℕ
signed_numbers n = to_twos (2 ^ 64) n ∷ []

-- how many records a page has, how many of its characters are missing, and how many specials it has (rule 10.4)
abbrev pub placed_numbers : Counts → List ℕ
placed_numbers c = c.records ∷ c.missing ∷ c.specials ∷ []

-- how many records a table has, or a table that was made (rule 10.4)
abbrev pub table_numbers : ℕ → List ℕ
table_numbers records = records ∷ []

-- how many bytes a file of chosen pages has (rule 10.4)
abbrev pub cut_numbers : ℕ → List ℕ
cut_numbers bytes = bytes ∷ []

-- 1, the escapement in two's complement of 64 bits, and the width's four bytes; or 0 where the table has no such character (rule 10.4)
abbrev pub looked_numbers : LookUp → List ℕ
looked_numbers (found m) =
    let w = m.width in
    1 ∷ to_twos (2 ^ 64) m.escapement ∷ w.b0 ∷ w.b1 ∷ w.b2 ∷ w.b3 ∷ []
looked_numbers absent = 0 ∷ []

-- the part of the file that holds a name: its first byte, and the place past its last (rule 10.4)
abbrev pub name_numbers : Part → List ℕ
name_numbers part = part.start ∷ part.end ∷ []
