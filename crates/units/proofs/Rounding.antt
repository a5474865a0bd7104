-- Laws of rounding, and the bounds that its products keep. Assumes nothing.
use mathlib.Core.Path.{◌≡◌, refl, sym, ap, ◌∙◌, subst}
use mathlib.Core.Bool.{true, false}
use Prim.Native.Nat.{ℕ, zero, suc, ◌+◌, ◌-◌, ◌*◌, ◌/◌, ◌≤◌, ◌<◌}
use native.Mathlib.Nat.{mul-le-mul_right, div-mul-le_self, div-lt_iff_lt-mul, le-div_iff_mul-le, le-mul_of_pos_right, le_of_mul-le-mul_right, one-mul, two-mul, mul_comm, add-mul, mul-add, div-zero, div-eq_of_lt}
use native.Mathlib.Omega.{arith}
use borrow.Author.Tests.{ltb-true, lt-ltb}
use lib.Dec.{T}
use lib.IntN.{ℤ, pos, negsuc, nat_abs}
use lib.Signed.{lt_z}
use Rattle.numbers.specs.Signs.{with_sign}
use Rattle.numbers.proofs.Signed.{abs_sign, abs_neg}
use Rattle.units.specs.declared.Ratio.{Ratio}
use Rattle.units.specs.Steps.{Workable}
use Rattle.units.specs.Rounding.{nearest_whole, rounded, rounded_up}

module _ {k : Ratio} (a : Workable k) (m : ℕ) where
  -- K is at most 1/2
  pub nearest_half : nearest_whole k m + nearest_whole k m ≤ m + 1
  unfolding nearest_whole
  nearest_half =
      let x = (2 * k.p * m + k.q) / (2 * k.q) in
      let low : x * (2 * k.q) ≤ 2 * k.p * m + k.q = div-mul-le_self (2 * k.p * m + k.q) (2 * k.q) in
      let half : 2 * k.p * m ≤ k.q * m = mul-le-mul_right m a.half in
      let left : (x + x) * k.q ≡ x * (2 * k.q) = add-mul x x k.q ∙ sym (ap (λ (t : ℕ). x * t) (two-mul k.q) ∙ mul-add x k.q k.q) in
      let right : (m + 1) * k.q ≡ k.q * m + k.q = add-mul m 1 k.q ∙ simp (one-mul, mul_comm m k.q) in
      le_of_mul-le-mul_right {k = k.q} (omega (arith, low, half, left, right)) a.q_positive

-- |rounded n| ≤ (|n| + 1) / 2
pub rounded_half : {k : Ratio} (a : Workable k) (n : ℤ) → nat_abs (rounded k n) + nat_abs (rounded k n) ≤ nat_abs n + 1
rounded_half {k} a n = subst (λ (m : ℕ). m + m ≤ nat_abs n + 1) (sym (abs_sign n (nearest_whole k (nat_abs n)))) (nearest_half a (nat_abs n))

-- rounded 0 is 0
pub rounded_zero : (k : Ratio) → rounded k (pos 0) ≡ pos 0
unfolding nearest_whole
rounded_zero k = ap pos (by k.q)
  where
    by : (q : ℕ) → (2 * k.p * 0 + q) / (2 * q) ≡ 0
    by zero = div-zero (2 * k.p * 0 + 0)
    by (suc q) = div-eq_of_lt (omega arith)

-- where K is 0, so is every rounded distance
pub rounded_none : (k : Ratio) → k.p ≡ 0 → (n : ℤ) → rounded k n ≡ pos 0
unfolding nearest_whole
rounded_none k none n = ap (with_sign n) (ap (λ (p : ℕ). (2 * p * nat_abs n + k.q) / (2 * k.q)) none ∙ by k.q) ∙ zero-sign n
  where
    by : (q : ℕ) → (2 * 0 * nat_abs n + q) / (2 * q) ≡ 0
    by zero = div-zero (2 * 0 * nat_abs n + 0)
    by (suc q) = div-eq_of_lt (omega arith)

    zero-sign : (z : ℤ) → with_sign z 0 ≡ pos 0
    zero-sign (pos a) = refl
    zero-sign (negsuc a) = refl

-- ---- rounding up, by the sign

pub up_negative : (k : Ratio) (n : ℤ) → lt_z n (pos 0) ≡ true → rounded_up k n ≡ with_sign n (k.p * nat_abs n / k.q)
up_negative k (pos a) e = absurd (omega (arith, ltb-true a 0 e))
up_negative k (negsuc a) e = refl

pub up_positive : (k : Ratio) (n : ℤ) → lt_z n (pos 0) ≡ false → rounded_up k n ≡ with_sign n ((k.p * nat_abs n + (k.q - 1)) / k.q)
up_positive k (pos a) e = refl
up_positive k (negsuc a) e = absurd (subst T e tt)

-- where K is above 0, a distance above 0 is at least one pixel
pub up_some : (k : Ratio) → 0 < k.p → 0 < k.q → (n : ℤ) → lt_z (pos 0) n ≡ true → lt_z (pos 0) (rounded_up k n) ≡ true
up_some k p q (pos m) e = lt-ltb 0 _ ((le-div_iff_mul-le q).1 (omega (arith, one-mul k.q, p, q, le-mul_of_pos_right k.p (ltb-true 0 m e))))
up_some k p q (negsuc m) e = absurd (subst T (sym e) tt)

module _ {k : Ratio} (a : Workable k) where
  -- K × m rounded up is at most m
  up_small : (m : ℕ) → (k.p * m + (k.q - 1)) / k.q ≤ m
  up_small m =
      let less : (k.p * m + (k.q - 1)) / k.q < m + 1 =
      (div-lt_iff_lt-mul a.q_positive).1 (omega (arith, a.q_positive, mul-le-mul_right m a.half, two-mul k.p, add-mul k.p k.p m, add-mul m 1 k.q, one-mul k.q, mul_comm m k.q)) in
      omega arith

  -- a rounded-up distance is no longer than the distance
  pub up_within : (n : ℤ) → nat_abs (rounded_up k n) ≤ nat_abs n
  up_within (pos m) = up_small m
  up_within (negsuc m) =
      rw (abs_neg (pos (k.p * suc m / k.q)))
      (let less : k.p * suc m / k.q < suc m + 1 =
      (div-lt_iff_lt-mul a.q_positive).1 (omega (arith, a.q_positive, mul-le-mul_right (suc m) a.half, two-mul k.p, add-mul k.p k.p (suc m), add-mul (suc m) 1 k.q, one-mul k.q, mul_comm (suc m) k.q)) in
      omega arith)
