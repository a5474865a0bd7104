-- A font's name as width records have it: sixteen bytes. Assumes nothing.
use Rattle.std.specs.Prelude.{ℕ, ◌+◌, ◌*◌, ◌^◌, ◌≡◌, refl, Bool, true, false, cond, not, ◌&&◌, ◌||◌, List, [], ◌∷◌, ◌++◌, leb, eqb, length, replicate}
use Rattle.numbers.specs.Bytes.{unsigned_at}
use Rattle.names.specs.declared.Name.{Name}

-- how many bytes of name a width record has (rule 6.1)
abbrev pub name_size : ℕ
name_size = 16

-- ---- which bytes are a name

-- there is a zero among the bytes (rule 6.9)
abbrev pub has_zero : List ℕ → Bool
has_zero [] = false
has_zero (b ∷ bytes) = eqb b 0 || has_zero bytes

-- there are zeros and nothing else (rule 6.4)
abbrev pub all_zeros : List ℕ → Bool
all_zeros [] = true
all_zeros (b ∷ bytes) = eqb b 0 && all_zeros bytes

-- behind a zero there are zeros and nothing else (rule 6.4)
abbrev pub name_then_zeros : List ℕ → Bool
name_then_zeros [] = true
name_then_zeros (b ∷ bytes) = cond (eqb b 0) (all_zeros bytes) (name_then_zeros bytes)

-- ---- names as numbers

-- the sixteen bytes at a place, as two numbers of eight (rule 1.2)
abbrev pub name_at : List ℕ → ℕ → Name
name_at bytes at = record { high = unsigned_at bytes at 8; low = unsigned_at bytes (at + 8) 8 }

-- the two as one number of sixteen bytes (rule 1.2)
abbrev pub name_number : Name → ℕ
name_number name = name.high * 2 ^ 64 + name.low

-- sixteen zeros, which stand for any name (rule 6.10)
abbrev pub any_name : Name
any_name = record { high = 0; low = 0 }

-- a name that a record can have: sixteen bytes at most, and no zero (rule 6.9)
abbrev pub fits_record : List ℕ → Bool
fits_record name = leb (length name) name_size && not (has_zero name)

-- the name that a font seeks: its own with zeros behind it, or sixteen zeros where no record can have its own (rule 6.9)
unfoldable pub sought_name : List ℕ → Name
sought_name name = cond (fits_record name) (name_at (name ++ replicate name_size 0) 0) any_name

-- "cmr" seeks itself, then zeros; no name, one of seventeen bytes and one with a zero seek sixteen zeros; a zero may stand at the end of a record's name alone
shown :
    (sought_name (99 ∷ 109 ∷ 114 ∷ []) ≡ record { high = ((99 * 256 + 109) * 256 + 114) * 256 ^ 5; low = 0 })
    × (sought_name [] ≡ any_name)
    × ((sought_name (replicate 16 65)).low ≡ (sought_name (replicate 16 65)).high)
    × (sought_name (replicate 17 65) ≡ any_name)
    × (sought_name (65 ∷ 0 ∷ []) ≡ any_name)
    × (name_then_zeros (65 ∷ 66 ∷ 0 ∷ 0 ∷ []) ≡ true)
    × (name_then_zeros (65 ∷ 0 ∷ 66 ∷ 0 ∷ []) ≡ false)
    × (name_then_zeros (0 ∷ 0 ∷ 0 ∷ 66 ∷ []) ≡ false)
unfolding sought_name unsigned_at
shown = (refl, refl, refl, refl, refl, refl, refl, refl)
