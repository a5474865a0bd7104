-- What a packet says of its character. Assumes nothing.
use Rattle.std.specs.Prelude.{ℕ, ◌+◌, ◌/◌, ◌%◌, Bool, cond, List, eqb, ℤ, pos, negsuc, neg_ℤ}
use Rattle.numbers.specs.Bytes.{unsigned_at, signed_at}
use Rattle.packed.specs.Commands.{form_of}

-- the character's code (rule 11.3)
unfoldable pub code_in : ℕ → List ℕ → ℕ
code_in flag params = unsigned_at params (form_of flag).length (form_of flag).code

-- its width, a fix word as one number; of three bytes the first is 0 (rules 11.3, 11.11)
unfoldable pub width_in : ℕ → List ℕ → ℕ
width_in flag params = unsigned_at params ((form_of flag).length + (form_of flag).code) (form_of flag).width

-- where the escapement stands, behind the width (rule 11.3)
abbrev pub escapement_start : ℕ → ℕ
escapement_start flag = (form_of flag).length + (form_of flag).code + (form_of flag).width

-- whether the form is the long one (rule 11.3)
abbrev pub is_long : ℕ → Bool
is_long flag = eqb (flag % 8) 7

-- 65,536ths of a pixel in pixels: the nearest number, and the upper one where two are as near; a negative number is −n − 1 (rule 11.7)
abbrev pub nearest : ℤ → ℤ
nearest (pos n) = pos ((n + 32768) / 65536)
nearest (negsuc n) = neg_ℤ (pos ((n + 32768) / 65536))

-- the escapement in pixels: dx, rounded, or dm, which has no sign (rule 11.7)
unfoldable pub escapement_in : ℕ → List ℕ → ℤ
escapement_in flag params =
    cond (is_long flag) (nearest (signed_at params (escapement_start flag) 4)) (pos (unsigned_at params (escapement_start flag) (form_of flag).escapement))
