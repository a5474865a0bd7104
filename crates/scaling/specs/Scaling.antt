-- The width of a character at its font's scale, as TeX and DVItype work it out. Assumes nothing.
use Rattle.std.specs.Prelude.{ℕ, zero, suc, ◌+◌, ◌*◌, ◌/◌, Bool, cond, not, ◌&&◌, ◌||◌, leb, eqb, ℤ, pos, ◌-ℤ◌}
use Rattle.refusals.specs.Numbers.{wrong_width_table}
use Rattle.refusals.specs.Answer.{Answer, given, refuse_if}
use Rattle.numbers.specs.Sizes.{lawful_size}
use Rattle.scaling.specs.declared.FixWord.{FixWord}

-- a fix word by its four bytes (rule 6.1)
abbrev pub fix_word : ℕ → ℕ → ℕ → ℕ → FixWord
fix_word b0 b1 b2 b3 = record { b0 = b0; b1 = b1; b2 = b2; b3 = b3 }

-- z and α after the halving (rule 6.6)
pub record Halved : Type 0 where
  pub z : ℕ
  pub alpha : ℕ

-- z halved and α doubled until z is below 2^23, at most so many times (rule 6.6)
unfoldable pub halving : ℕ → ℕ → ℕ → Halved
halving zero z alpha = record { z = z; alpha = alpha }
halving (suc times) z alpha = cond (leb 8388608 z) (halving times (z / 2) (alpha * 2)) (record { z = z; alpha = alpha })

-- from the scale and 16 on; no scale has more than 27 bits, so four times are enough (rule 6.6)
abbrev pub halved : ℕ → Halved
halved scale = halving 4 scale 16

-- what the last three bytes come to, from the last one on (rule 6.6)
abbrev pub share : Halved → FixWord → ℕ
share k w = ((w.b3 * k.z / 256 + w.b2 * k.z) / 256 + w.b1 * k.z) / (256 / k.alpha)

-- a word whose first byte is 255 is negative: α × z less (rule 6.6)
abbrev pub signed_share : Halved → FixWord → ℤ
signed_share k w = cond (eqb w.b0 255) (pos (share k w) -ℤ pos (k.alpha * k.z)) (pos (share k w))

-- the width of a fix word at a scale (rule 6.6)
abbrev pub scaled_by : ℕ → FixWord → ℤ
scaled_by scale w = signed_share (halved scale) w

-- the first byte of a fix word (rule 6.5)
abbrev pub lawful_first : ℕ → Bool
lawful_first b0 = eqb b0 0 || eqb b0 255

-- what scale_width answers (rule 6.7)
abbrev pub scaled_width : ℕ → FixWord → Answer ℤ
scaled_width scale w = refuse_if (not (lawful_size scale && lawful_first w.b0)) wrong_width_table 0 (given (scaled_by scale w))
