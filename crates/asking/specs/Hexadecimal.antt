-- Bytes in words, in lower-case hexadecimal. Assumes nothing.
use Rattle.std.specs.Prelude.{ℕ, zero, suc, ◌+◌, ◌-◌, ◌*◌, Bool, cond, ◌&&◌, List, [], ◌∷◌, leb, eqb, take}
use Rattle.std.specs.declared.option.Option.{Option}
use Rattle.std.specs.declared.option.Option.TheVariants.{Some, None}
use Rattle.asking.specs.Decimal.{is_digit}

-- the letters a to f are the bytes 97 to 102 (rule 10.5)
abbrev pub is_letter : ℕ → Bool
is_letter sign = leb 97 sign && leb sign 102

-- a digit's value (rule 10.5)
abbrev pub digit_of : ℕ → Option ℕ
digit_of sign = cond (is_digit sign) (Some (sign - 48)) (cond (is_letter sign) (Some (sign - 87)) None)

-- the byte of two digits' values (rule 10.5)
abbrev pub joined : Option ℕ → Option ℕ → Option ℕ
joined (Some high) (Some low) = Some (high * 16 + low)
joined (Some high) None = None
joined None low = None

-- the byte that two digits say (rule 10.5)
abbrev pub byte_of_pair : ℕ → ℕ → Option ℕ
byte_of_pair high low = joined (digit_of high) (digit_of low)

-- a byte before others (rule 10.5)
abbrev pub before : Option ℕ → Option (List ℕ) → Option (List ℕ)
before (Some byte) (Some rest) = Some (byte ∷ rest)
before (Some byte) None = None
before None rest = None

-- pairs of digits to the word's end, so many bytes at most (rule 10.5)
unfoldable pub pairs_within : ℕ → List ℕ → Option (List ℕ)
pairs_within most [] = Some []
pairs_within most (one ∷ []) = None
pairs_within zero (high ∷ low ∷ rest) = None
pairs_within (suc most) (high ∷ low ∷ rest) = before (byte_of_pair high low) (pairs_within most rest)

-- a word of one pair or more, or a dash, which is the byte 45, for no bytes (rule 10.5)
abbrev pub spelled_within : ℕ → List ℕ → Option (List ℕ)
spelled_within most [] = None
spelled_within most (sign ∷ []) = cond (eqb sign 45) (Some []) None
spelled_within most (high ∷ low ∷ rest) = pairs_within most (high ∷ low ∷ rest)

-- what the code's answer says, with the buffer that it wrote into (rule 10.5)
abbrev pub said_in : List ℕ → Option ℕ → Option (List ℕ)
said_in buffer (Some length) = Some (take length buffer)
said_in buffer None = None
