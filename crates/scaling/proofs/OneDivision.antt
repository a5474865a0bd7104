-- TeX's chain of three divisions is one division of one product, at every scale; and how large a width can be. Assumes nothing.
use mathlib.Core.Path.{◌≡◌, refl, sym, ap, ap₂, subst, ◌∙◌}
use mathlib.Core.Bool.{cond}
use Prim.Native.Nat.{ℕ, ◌+◌, ◌*◌, ◌/◌, ◌^◌, ◌≤◌, ◌<◌, max}
use native.Mathlib.Nat.{mul_assoc, mul_comm, mul-le-mul_right, div-div-eq-div-mul, div-eq_of_eq-mul_right, div-le_of_le-mul, mul-div-mul_right}
use native.Mathlib.Omega.{arith}
use lib.Dec.{eqb}
use lib.IntN.{pos, nat_abs, ◌-ℤ◌}
use Rattle.numbers.proofs.Signed.{abs_gap, abs_cond}
use Rattle.scaling.specs.declared.FixWord.{FixWord}
use Rattle.scaling.specs.Scaling.{Halved, halving, halved, share, scaled_by}
use Rattle.scaling.specs.Fractions.{LastBytes, fraction}
use Rattle.scaling.specs.Steps.{sixteenfold_of, width_from}
use Rattle.scaling.proofs.Halving.{Settled, settled, alpha_some}

-- ---- one division

-- the three divisions of rule 6.6 come to one, by 65536 × (256/α)
pub chain_is_one_division : (k : Halved) (w : FixWord) → share k w ≡ fraction w * k.z / (65536 * (256 / k.alpha))
chain_is_one_division k w =
    let two : (w.b3 * k.z / 256 + w.b2 * k.z) / 256 + w.b1 * k.z ≡ fraction w * k.z / 65536 = omega arith in
    ap (λ (n : ℕ). n / (256 / k.alpha)) two ∙ div-div-eq-div-mul (fraction w * k.z) 65536 (256 / k.alpha)

-- 256/α is exact, so α can go from the divisor to the product: the divisor is then 2^24 at every scale
share_by_sixteenfold : {scale : ℕ} {k : Halved} (w : FixWord) → Settled scale k → share k w ≡ fraction w * (k.alpha * k.z) / 16777216
share_by_sixteenfold {scale} {k} w s =
    let beta = 2 ^ s.times in
    let some : 1 ≤ k.alpha = alpha_some s.times k.alpha s.full in
    let exact : 256 / k.alpha ≡ beta = div-eq_of_eq-mul_right some (sym s.full) in
    let over : fraction w * k.z * k.alpha ≡ fraction w * (k.alpha * k.z) = mul_assoc (fraction w) k.z k.alpha ∙ ap (λ (n : ℕ). fraction w * n) (mul_comm k.z k.alpha) in
    let under : 65536 * beta * k.alpha ≡ 16777216 = mul_assoc 65536 beta k.alpha ∙ ap (λ (n : ℕ). 65536 * n) (mul_comm beta k.alpha ∙ s.full) in
    chain_is_one_division k w
    ∙ ap (λ (n : ℕ). fraction w * k.z / (65536 * n)) exact
    ∙ sym (mul-div-mul_right (fraction w * k.z) (65536 * beta) some)
    ∙ ap₂ ◌/◌ over under

module _ (scale : ℕ) where
  -- one product and one division give the width that the chain gives
  pub one_division : (w : FixWord) → width_from (sixteenfold_of scale) w ≡ scaled_by scale w
  unfolding sixteenfold_of
  one_division w =
      let k = halved scale in
      ap (λ (n : ℕ). cond (eqb w.b0 255) (pos n -ℤ pos (k.alpha * k.z)) (pos n)) (sym (share_by_sixteenfold w (settled scale)))

  -- the sixteenfold of a scale in its range has 31 bits at most
  pub sixteenfold_small : scale ≤ 134217727 → sixteenfold_of scale < 2 ^ 31
  unfolding sixteenfold_of
  sixteenfold_small lawful = omega (arith, (settled scale).kept)

-- without a font the scale is 0, and so is its sixteenfold
pub sixteenfold_none : sixteenfold_of 0 ≡ 0
unfolding sixteenfold_of halving
sixteenfold_none = refl

-- ---- how large a width can be

-- a fraction is below 1, so the three bytes come to at most α × z
share_bound : {scale : ℕ} {k : Halved} (w : FixWord) → Settled scale k → LastBytes w → share k w ≤ k.alpha * k.z
share_bound {scale} {k} w s b =
    let sixteenfold = k.alpha * k.z in
    let below : fraction w ≤ 16777216 = omega (arith, b.b1_below, b.b2_below, b.b3_below) in
    subst (λ (n : ℕ). n ≤ sixteenfold) (sym (share_by_sixteenfold w s)) (div-le_of_le-mul 16777216 (mul-le-mul_right sixteenfold below))

-- a width is at most 16 times the scale: a fix word is between −16 and 16
pub width_bound : (scale : ℕ) (w : FixWord) → LastBytes w → nat_abs (scaled_by scale w) ≤ 16 * scale
width_bound scale w b =
    let k = halved scale in
    let s : Settled scale k = settled scale in
    let most : nat_abs (pos (share k w) -ℤ pos (k.alpha * k.z)) ≤ max (share k w) (k.alpha * k.z) = abs_gap (share k w) (k.alpha * k.z) in
    let either = abs_cond (eqb w.b0 255) (pos (share k w) -ℤ pos (k.alpha * k.z)) (pos (share k w)) in
    omega (arith, either, most, share_bound w s b, s.kept)

-- in particular at most 2 ^ 31
pub width_small : (scale : ℕ) (w : FixWord) → LastBytes w → scale ≤ 134217727 → nat_abs (scaled_by scale w) ≤ 2 ^ 31
width_small scale w b h = omega (arith, width_bound scale w b)
