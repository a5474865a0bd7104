-- Below 2^23 a width is the scale times the fix word over 2^20, cut downwards. Assumes nothing.
use mathlib.Core.Path.{◌≡◌, ap, ◌∙◌}
use mathlib.Core.Bool.{cond}
use Prim.Native.Nat.{ℕ, ◌*◌, ◌/◌, ◌<◌}
use lib.Dec.{eqb}
use lib.IntN.{pos, ◌-ℤ◌}
use borrow.Author.Tests.{lt-leb}
use Rattle.scaling.specs.declared.FixWord.{FixWord}
use Rattle.scaling.specs.Scaling.{Halved, halving, halved, signed_share, scaled_by}
use Rattle.scaling.specs.Fractions.{fraction}
use Rattle.scaling.proofs.OneDivision.{chain_is_one_division}

-- below 8,388,608 nothing is halved
not_halved : (scale : ℕ) → scale < 8388608 → halved scale ≡ record { z = scale; alpha = 16 }
unfolding halving
not_halved scale small = rw (lt-leb 8388608 scale small)

-- so there a width is the scale times the fix word over 2^20, cut downwards; above 2^23 that is not always so (rule 6.6)
pub widths_are_tex : (scale : ℕ) (w : FixWord) → scale < 8388608
    → scaled_by scale w ≡ cond (eqb w.b0 255) (pos (fraction w * scale / 1048576) -ℤ pos (16 * scale)) (pos (fraction w * scale / 1048576))
widths_are_tex scale w small =
    let k : Halved = record { z = scale; alpha = 16 } in
    ap (λ (h : Halved). signed_share h w) (not_halved scale small)
    ∙ ap (λ (n : ℕ). cond (eqb w.b0 255) (pos n -ℤ pos (16 * scale)) (pos n)) (chain_is_one_division k w)
