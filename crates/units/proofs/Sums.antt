-- How far a rounded position and a distance rounded up are from the rounded sum of the two: by one pixel at most. Assumes nothing.
use mathlib.Core.Path.{◌≡◌, refl, sym, ap, ◌∙◌}
use Prim.Native.Nat.{ℕ, zero, suc, ◌+◌, ◌-◌, ◌*◌, ◌/◌, ◌≤◌, ◌<◌}
use native.Mathlib.Nat.{div-mul-le_self, div-lt_iff_lt-mul, le_of_mul-le-mul_right, lt_of_mul-lt-mul_right, two-mul, add-mul, mul-add, one-mul, div-zero}
use native.Mathlib.Omega.{arith}
use lib.IntN.{ℤ, pos, negsuc, neg_ℤ, nat_abs, ◌+ℤ◌, ◌-ℤ◌}
use Rattle.numbers.specs.Parts.{up, dn}
use Rattle.numbers.proofs.Signed.{sum, diff, up_neg, dn_neg, abs_within}
use Rattle.units.specs.declared.Ratio.{Ratio}
use Rattle.units.specs.Rounding.{nearest_whole, rounded, rounded_up}

module _ (k : Ratio) (some : 0 < k.q) where
  abbrev p : ℕ
  p = k.p

  abbrev q : ℕ
  q = k.q

  -- ---- of a magnitude, in units of 1/q

  module _ (m : ℕ) where
    -- the nearest whole number is at most a half off
    nearest_low : nearest_whole k m * q + nearest_whole k m * q ≤ p * m + p * m + q
    unfolding nearest_whole
    nearest_low =
        let x = nearest_whole k m in
        omega (arith, div-mul-le_self (2 * p * m + q) (2 * q), ap (λ (t : ℕ). x * t) (two-mul q), mul-add x q q, ap (λ (t : ℕ). t * m) (two-mul p), add-mul p p m)

    nearest_high : p * m + p * m < nearest_whole k m * q + nearest_whole k m * q + q
    unfolding nearest_whole
    nearest_high =
        let x = nearest_whole k m in
        let wide : 0 < 2 * q = omega (arith, some) in
        let high : 2 * p * m + q < (x + 1) * (2 * q) = (div-lt_iff_lt-mul wide).0 (omega arith) in
        omega (arith, high, add-mul x 1 (2 * q), one-mul (2 * q), ap (λ (t : ℕ). x * t) (two-mul q), mul-add x q q, ap (λ (t : ℕ). t * m) (two-mul p), add-mul p p m)

    -- one that is cut is not above, and one that is rounded up not below, and either is less than 1 off
    cut_low : p * m / q * q ≤ p * m
    cut_low = div-mul-le_self (p * m) q

    cut_high : p * m < p * m / q * q + q
    cut_high = let x = p * m / q in let high : p * m < (x + 1) * q = (div-lt_iff_lt-mul some).0 (omega arith) in omega (arith, high, add-mul x 1 q, one-mul q)

    up_low : p * m ≤ (p * m + (q - 1)) / q * q
    up_low =
        let x = (p * m + (q - 1)) / q in
        let high : p * m + (q - 1) < (x + 1) * q = (div-lt_iff_lt-mul some).0 (omega arith) in
        omega (arith, high, add-mul x 1 q, one-mul q, some)

    up_high : (p * m + (q - 1)) / q * q < p * m + q
    up_high = omega (arith, div-mul-le_self (p * m + (q - 1)) q, some)

  -- ---- of a signed number, with no minus on either side

  module _ (z : ℤ) where
    abbrev near : ℤ
    near = rounded k z

    abbrev above : ℤ
    above = rounded_up k z

  rounded_low : (z : ℤ) → up (near z) * q + up (near z) * q + (p * dn z + p * dn z) ≤ p * up z + p * up z + (dn (near z) * q + dn (near z) * q) + q
  rounded_low (pos m) = omega (arith, nearest_low m)
  rounded_low (negsuc m) = rw (up_neg (pos (nearest_whole k (suc m))), dn_neg (pos (nearest_whole k (suc m)))) (omega (arith, nearest_high (suc m)))

  rounded_high : (z : ℤ) → p * up z + p * up z + (dn (near z) * q + dn (near z) * q) ≤ up (near z) * q + up (near z) * q + (p * dn z + p * dn z) + q
  rounded_high (pos m) = omega (arith, nearest_high m)
  rounded_high (negsuc m) = rw (up_neg (pos (nearest_whole k (suc m))), dn_neg (pos (nearest_whole k (suc m)))) (omega (arith, nearest_low (suc m)))

  raised_low : (z : ℤ) → p * up z + dn (above z) * q ≤ up (above z) * q + p * dn z
  raised_low (pos m) = omega (arith, up_low m)
  raised_low (negsuc m) = rw (up_neg (pos (p * suc m / q)), dn_neg (pos (p * suc m / q))) (omega (arith, cut_low (suc m)))

  raised_high : (z : ℤ) → up (above z) * q + p * dn z < p * up z + dn (above z) * q + q
  raised_high (pos m) = omega (arith, up_high m)
  raised_high (negsuc m) = rw (up_neg (pos (p * suc m / q)), dn_neg (pos (p * suc m / q))) (omega (arith, cut_high (suc m)))

  -- ---- a sum

  module _ (h b : ℤ) where
    -- the sum of the two, and the rounded sum, each side without its minus
    abbrev ahead : ℕ
    ahead = up (near h) + up (above b) + dn (near (h +ℤ b))

    abbrev behind : ℕ
    behind = dn (near h) + dn (above b) + up (near (h +ℤ b))

    scaled_sum : p * up (h +ℤ b) + (p * dn h + p * dn b) ≡ p * dn (h +ℤ b) + (p * up h + p * up b)
    scaled_sum =
        let left : p * (up (h +ℤ b) + (dn h + dn b)) ≡ p * up (h +ℤ b) + (p * dn h + p * dn b) = simp (mul-add) in
        let right : p * (dn (h +ℤ b) + (up h + up b)) ≡ p * dn (h +ℤ b) + (p * up h + p * up b) = simp (mul-add) in
        sym left ∙ ap (λ (t : ℕ). p * t) (sum h b) ∙ right

    -- in units of 1/q
    ahead_is : ahead * q ≡ up (near h) * q + up (above b) * q + dn (near (h +ℤ b)) * q
    ahead_is = simp (add-mul)

    behind_is : behind * q ≡ dn (near h) * q + dn (above b) * q + up (near (h +ℤ b)) * q
    behind_is = simp (add-mul)

    one_ahead : ahead ≤ behind + 1
    one_ahead =
        let less : ahead * q < (behind + 2) * q = omega (arith, ahead_is, behind_is, add-mul behind 2 q, two-mul q, scaled_sum, rounded_low h, raised_high b, rounded_high (h +ℤ b)) in
        omega (arith, lt_of_mul-lt-mul_right q {m = ahead} {n = behind + 2} less)

    one_behind : behind ≤ ahead + 1
    one_behind =
        let most : behind * q ≤ (ahead + 1) * q = omega (arith, ahead_is, behind_is, add-mul ahead 1 q, one-mul q, scaled_sum, rounded_high h, raised_low b, rounded_low (h +ℤ b)) in
        le_of_mul-le-mul_right {m = behind} {n = ahead + 1} most some

    one_apart_some : nat_abs ((near h +ℤ above b) -ℤ near (h +ℤ b)) ≤ 1
    one_apart_some =
        let e = sum (near h) (above b) in
        let d = diff (near h +ℤ above b) (near (h +ℤ b)) in
        abs_within ((near h +ℤ above b) -ℤ near (h +ℤ b)) 1 (omega (arith, e, d, one_ahead)) (omega (arith, e, d, one_behind))

-- ---- whatever K is: where q is 0, all is rounded to 0

module _ (k : Ratio) (none : k.q ≡ 0) where
  flat : (m : ℕ) → nearest_whole k m ≡ 0
  unfolding nearest_whole
  flat m = rw none (div-zero (2 * k.p * m + 0))

  rounded_flat : (z : ℤ) → rounded k z ≡ pos 0
  rounded_flat (pos m) = ap pos (flat m)
  rounded_flat (negsuc m) = ap (λ (x : ℕ). neg_ℤ (pos x)) (flat (suc m))

  raised_flat : (z : ℤ) → rounded_up k z ≡ pos 0
  raised_flat (pos m) = rw none (ap pos (div-zero (k.p * m + (0 - 1))))
  raised_flat (negsuc m) = rw none (ap (λ (x : ℕ). neg_ℤ (pos x)) (div-zero (k.p * suc m)))

-- a rounded position and a distance rounded up make the rounded sum, or one pixel more or less
pub one_apart : (k : Ratio) (h b : ℤ) → nat_abs ((rounded k h +ℤ rounded_up k b) -ℤ rounded k (h +ℤ b)) ≤ 1
one_apart k h b = by k.q refl
  where
    by : (q : ℕ) → k.q ≡ q → nat_abs ((rounded k h +ℤ rounded_up k b) -ℤ rounded k (h +ℤ b)) ≤ 1
    by zero e = rw (rounded_flat k e h, raised_flat k e b, rounded_flat k e (h +ℤ b)) (omega arith)
    by (suc q) e = one_apart_some k (omega (arith, e)) h b
