-- What is known of a K that was given. Assumes nothing.
use mathlib.Core.Path.{◌≡◌, refl, subst}
use mathlib.Core.Bool.{Bool, true, false, ◌||◌, ◌&&◌, and-eq-true_iff}
use Prim.Native.Nat.{ℕ, ◌*◌, ◌<◌, ◌^◌}
use native.Mathlib.Nat.{mul-pos}
use native.Mathlib.Omega.{arith}
use borrow.Author.Tests.{ltb-false, leb-true, not-false}
use lib.Dec.{ltb, leb}
use Rattle.refusals.specs.Numbers.{wrong_resolution, unit_out_of_range}
use Rattle.refusals.specs.Answer.{given}
use Rattle.refusals.proofs.Answer.{given_next, given_same}
use Rattle.units.specs.declared.Ratio.{Ratio}
use Rattle.units.specs.Divisor.{lowest}
use Rattle.units.specs.Unit.{ratio_of, out_of_range, resolution_outside, in_range, unit_of}
use Rattle.units.specs.Steps.{Units, Workable}
use Rattle.units.proofs.Cancelling.{cut, num_some, den_small}

neither : (a b : Bool) → (a || b) ≡ false → (a ≡ false) × (b ≡ false)
neither true b e = let z : ◌≡◌ {A = ℕ} 0 1 = cc in absurd (omega arith)
neither false b e = (refl, e)

-- a fraction of two numbers above 0 whose lower one is small, if it is in range
lowest_accepted : (n d : ℕ) → 0 < n → d < 2 ^ 60 → out_of_range (lowest n d) ≡ false → (0 < (lowest n d).p) × Workable (lowest n d)
lowest_accepted n d h l e =
    let out = neither (ltb 1073741823 (lowest n d).p) (ltb (lowest n d).q (2 * (lowest n d).p)) e in
    let positive = num_some (cut n d h) h in
    let half = ltb-false (lowest n d).q (2 * (lowest n d).p) out.1 in (
      positive,
      record {
        q_positive = omega (arith, positive, half);
        small = ltb-false 1073741823 (lowest n d).p out.0;
        half = half;
        room = omega (arith, den_small (cut n d h));
      },
    )

-- a K that is given is above 0 and at most 1/2, and its terms leave room for products with 32 bits
pub accepted : (num den mag resolution : ℕ) (k : Ratio) → Units num den mag → unit_of num den mag resolution ≡ given k → (0 < k.p) × Workable k
accepted num den mag resolution k u e =
    let k' = ratio_of num den mag resolution in
    let outer = given_next (resolution_outside resolution) wrong_resolution 0 (in_range k') k e in
    let inner = given_next (out_of_range k') unit_out_of_range 0 (given k') k outer.1 in
    let some = leb-true 1 resolution ((and-eq-true_iff (leb 1 resolution) (leb resolution 10000)).0 (not-false (leb 1 resolution && leb resolution 10000) outer.0)).0 in
    subst (λ (k : Ratio). (0 < k.p) × Workable k) (given_same k' k inner.1)
    (lowest_accepted (num * mag * resolution) (den * 1000 * 254000) (mul-pos (mul-pos u.num_positive u.mag_positive) some) (omega (arith, u.den_below)) inner.0)
