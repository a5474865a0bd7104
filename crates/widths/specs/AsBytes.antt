-- Bytes and their order. What the laws on keys are stated with. Assumes nothing.
use Rattle.std.specs.Prelude.{ℕ, ◌+◌, ◌*◌, ◌<◌, Bool, false, cond, List, [], ◌∷◌, ltb, eqb, length, get_or, take, drop}
use Rattle.widths.specs.Table.{size_with}

-- each element is a byte (rule 1.1)
abbrev pub Bytes : List ℕ → Type 0
Bytes xs = (i : ℕ) → i < length xs → get_or xs i 0 < 256

-- one row of bytes is below another: at the first place where they differ its byte is the smaller one (rule 6.3)
abbrev pub rises_as_bytes : List ℕ → List ℕ → Bool
rises_as_bytes [] ys = false
rises_as_bytes (x ∷ xs) [] = false
rises_as_bytes (x ∷ xs) (y ∷ ys) = cond (eqb x y) (rises_as_bytes xs ys) (ltb x y)

-- the bytes of a record's key, whose name has so many (rules 6.1, 6.11)
abbrev pub key_bytes : ℕ → List ℕ → ℕ → List ℕ
key_bytes named table index = take (named + 9) (drop (index * size_with named) table)
