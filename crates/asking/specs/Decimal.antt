-- Decimal numbers in words. Assumes nothing.
use Rattle.std.specs.Prelude.{ℕ, ◌+◌, ◌-◌, ◌*◌, ◌≤◌, Bool, cond, ◌&&◌, List, [], ◌∷◌, leb, eqb, ℤ, pos, neg_ℤ}
use Rattle.std.specs.declared.option.Option.{Option}
use Rattle.std.specs.declared.option.Option.TheVariants.{Some, None}

-- the digits 0 to 9 are the bytes 48 to 57
abbrev pub is_digit : ℕ → Bool
is_digit byte = leb 48 byte && leb byte 57

-- the number so far with a digit more
abbrev pub appended : ℕ → ℕ → ℕ
appended value byte = value * 10 + (byte - 48)

-- a byte is a digit, and makes no number above the greatest
abbrev pub may_follow : ℕ → ℕ → ℕ → Bool
may_follow most value byte = is_digit byte && leb (appended value byte) most

-- the rest of a word after a number so far: such digits to its end
unfoldable pub decimal_from : ℕ → ℕ → List ℕ → Option ℕ
decimal_from most value [] = Some value
decimal_from most value (byte ∷ rest) = cond (may_follow most value byte) (decimal_from most (appended value byte) rest) None

-- a decimal number of one digit or more (rule 10.2)
abbrev pub decimal_of : ℕ → List ℕ → Option ℕ
decimal_of most [] = None
decimal_of most (byte ∷ rest) = decimal_from most 0 (byte ∷ rest)

-- a number that a word says is no greater than the greatest that was asked for
abbrev pub AtMost : ℕ → Option ℕ → Type 0
AtMost most (Some value) = value ≤ most
AtMost most None = Unit {0}

-- an unsigned number of 32 bits
abbrev pub unsigned32_of : List ℕ → Option ℕ
unsigned32_of word = decimal_of 4294967295 word

-- a byte
abbrev pub byte_of : List ℕ → Option ℕ
byte_of word = decimal_of 255 word

-- a signed number of 32 bits, by its digits without and with a minus, which is the byte 45
abbrev pub plain : Option ℕ → Option ℤ
plain (Some size) = Some (pos size)
plain None = None

-- with a minus
abbrev pub minus : Option ℕ → Option ℤ
minus (Some size) = Some (neg_ℤ (pos size))
minus None = None

-- of a word
abbrev pub signed32_of : List ℕ → Option ℤ
signed32_of [] = None
signed32_of (first ∷ rest) = cond (eqb first 45) (minus (decimal_of 2147483648 rest)) (plain (decimal_of 2147483647 (first ∷ rest)))
