-- The starred examples on widths, as entries of a list. Assumes nothing.
use Rattle.std.specs.Prelude.{ℕ, ◌≡◌, refl, List, [], ◌∷◌, map, ℤ, pos, negsuc}
use Rattle.refusals.specs.Answer.{Answer, given}
use Rattle.scaling.specs.declared.FixWord.{FixWord}
use Rattle.scaling.specs.Scaling.{fix_word, halving, scaled_width}

-- a fix word and a scale, and the width that they must give
pub record WidthExample : Type 0 where
  pub width : FixWord
  pub scale : ℕ
  pub printed : Answer ℤ

-- a width of ordinary text; the least negative word; the word of 1 at a scale whose halving loses a bit
abbrev pub width_examples : List WidthExample
width_examples =
    record { width = fix_word 0 9 199 28; scale = 655360; printed = given (pos 400497) }
    ∷ record { width = fix_word 255 255 255 255; scale = 100; printed = given (negsuc 0) }
    ∷ record { width = fix_word 0 16 0 0; scale = 8388609; printed = given (pos 8388608) }
    ∷ []

-- what the definitions give for an example
abbrev pub width_found : WidthExample → Answer ℤ
width_found e = scaled_width e.scale e.width

-- the definitions give what they must
pub widths_hold : map width_found width_examples ≡ map (λ e. e.printed) width_examples
unfolding halving
widths_hold = refl
