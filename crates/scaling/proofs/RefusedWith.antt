-- The refusals of scaling a width. Assumes nothing.
use Prim.Native.Nat.{ℕ}
use mathlib.Core.Path.{refl}
use mathlib.Core.Bool.{not, ◌&&◌}
use Rattle.refusals.specs.Numbers.{wrong_width_table}
use Rattle.refusals.specs.Answer.{given}
use Rattle.refusals.specs.RefusedOnly.{RefusedOnly, WidthRefusal}
use Rattle.refusals.proofs.RefusedOnly.{if_only}
use Rattle.numbers.specs.Sizes.{lawful_size}
use Rattle.scaling.specs.declared.FixWord.{FixWord}
use Rattle.scaling.specs.Scaling.{lawful_first, scaled_by, scaled_width}

-- 14 at 0
pub width_refused_with : (scale : ℕ) (w : FixWord) → RefusedOnly WidthRefusal (scaled_width scale w)
width_refused_with scale w =
    if_only WidthRefusal (not (lawful_size scale && lawful_first w.b0)) wrong_width_table 0 (given (scaled_by scale w)) (refl, refl) tt
