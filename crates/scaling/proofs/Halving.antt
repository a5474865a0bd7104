-- The loop that halves z and doubles α, against `halving`: a turn takes one from the times left; and what holds of z and α at every scale. Assumes nothing.
use mathlib.Core.Path.{◌≡◌, refl, sym, ap, subst, ◌∙◌}
use mathlib.Core.Bool.{Bool, true, false, cond}
use Prim.Native.Nat.{ℕ, zero, suc, ◌*◌, ◌/◌, ◌^◌, ◌≤◌, ◌<◌}
use native.Mathlib.Nat.{pow-suc, mul_assoc, mul_comm, zero-mul, mul-le-mul_left}
use native.Mathlib.Omega.{arith}
use lib.Dec.{leb}
use borrow.Author.Tests.{le-leb, lt-leb}
use Rattle.scaling.specs.Scaling.{Halved, halving, halved}

abbrev at : ℕ → ℕ → Halved
at z alpha = record { z = z; alpha = alpha }

-- so many times are left at most
pub record Left (scale times z alpha : ℕ) : Type 0 where
  pub below : z < 8388608 * 2 ^ times
  pub full : alpha * 2 ^ times ≡ 256
  pub kept : alpha * z ≤ 16 * scale
  pub rest : halving times z alpha ≡ halved scale

-- what is known at the end: α is a power of two that divides 256
pub record Settled (scale : ℕ) (k : Halved) : Type 0 where
  pub times : ℕ
  pub full : k.alpha * 2 ^ times ≡ 256
  pub kept : k.alpha * k.z ≤ 16 * scale

pub start : (scale : ℕ) → scale ≤ 134217727 → Left scale 4 scale 16
start scale h = record { below = omega arith; full = refl; kept = omega arith; rest = refl }

doubled : (alpha times : ℕ) → alpha * 2 ^ suc times ≡ 256 → alpha * 2 * 2 ^ times ≡ 256
doubled alpha times full = mul_assoc alpha 2 (2 ^ times) ∙ ap (λ (x : ℕ). alpha * x) (mul_comm 2 (2 ^ times) ∙ sym (pow-suc 2 times)) ∙ full

double_half : (alpha z : ℕ) → alpha * 2 * (z / 2) ≤ alpha * z
double_half alpha z = subst (λ (n : ℕ). n ≤ alpha * z) (sym (mul_assoc alpha 2 (z / 2))) (mul-le-mul_left alpha (omega arith))

module _ (scale z alpha : ℕ) where
  turn_by : (times : ℕ) → Left scale (suc times) z alpha → 8388608 ≤ z → Left scale times (z / 2) (alpha * 2)
  unfolding halving
  turn_by times l h =
      record {
        below = omega (arith, l.below, pow-suc 2 times);
        full = doubled alpha times l.full;
        kept = omega (arith, l.kept, double_half alpha z);
        rest = simp (le-leb 8388608 z h) at l.rest;
      }

  -- a turn of the loop
  pub turn : (times : ℕ) → Left scale times z alpha → 8388608 ≤ z → (left : ℕ) × Left scale left (z / 2) (alpha * 2)
  turn zero l h = absurd (omega (arith, l.below))
  turn (suc times) l h = (times, turn_by times l h)

  pub done : (times : ℕ) → Left scale times z alpha → z < 8388608 → at z alpha ≡ halved scale
  unfolding halving
  done zero l h = l.rest
  done (suc times) l h = simp (lt-leb 8388608 z h) at l.rest

-- at every scale α divides 256, and α × z is at most 16 times the scale, since halving ends after four times
module _ (scale : ℕ) where
  settled_by : (times z alpha : ℕ) (more : Bool) → alpha * 2 ^ suc times ≡ 256 → alpha * z ≤ 16 * scale → Settled scale (halving times (z / 2) (alpha * 2))
      → Settled scale (cond more (halving times (z / 2) (alpha * 2)) (at z alpha))
  settled_by times z alpha true full kept next = next
  settled_by times z alpha false full kept next = record { times = suc times; full = full; kept = kept }

  settled_from : (times z alpha : ℕ) → alpha * 2 ^ times ≡ 256 → alpha * z ≤ 16 * scale → Settled scale (halving times z alpha)
  unfolding halving
  settled_from zero z alpha full kept = record { times = zero; full = full; kept = kept }
  settled_from (suc times) z alpha full kept =
      settled_by times z alpha (leb 8388608 z) full kept
      (settled_from times (z / 2) (alpha * 2) (doubled alpha times full) (omega (arith, kept, double_half alpha z)))

  pub settled : Settled scale (halved scale)
  settled = settled_from 4 scale 16 refl (omega arith)

-- α is not 0 and at most 256
module _ (times alpha : ℕ) (full : alpha * 2 ^ times ≡ 256) where
  pub alpha_some : 1 ≤ alpha
  alpha_some = by alpha full
    where
      by : (n : ℕ) → n * 2 ^ times ≡ 256 → 1 ≤ n
      by zero e = absurd (omega (arith, zero-mul (2 ^ times)))
      by (suc n) e = omega arith
