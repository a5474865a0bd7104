-- The refusals of K and of a rounded distance. Assumes nothing.
use Prim.Native.Nat.{ℕ}
use mathlib.Core.Path.{refl}
use mathlib.Core.Bool.{not, ◌&&◌}
use mathlib.Core.Logic.{inl, inr}
use lib.IntN.{ℤ, nat_abs}
use Rattle.refusals.specs.Numbers.{wrong_preamble, wrong_resolution, unit_out_of_range}
use Rattle.refusals.specs.Answer.{given}
use Rattle.refusals.specs.RefusedOnly.{RefusedOnly, UnitRefusal, DistanceRefusal}
use Rattle.refusals.proofs.RefusedOnly.{if_only, then_only, only_wider}
use Rattle.numbers.specs.Signs.{positive}
use Rattle.units.specs.Unit.{ratio_of, out_of_range, resolution_outside, in_range, unit_of}
use Rattle.units.specs.Rounding.{rounded_distance}

-- 12 or 13 at 0
pub unit_refused_with : (num den mag resolution : ℕ) → RefusedOnly UnitRefusal (unit_of num den mag resolution)
unit_refused_with num den mag resolution =
    let k = ratio_of num den mag resolution in
    if_only UnitRefusal (resolution_outside resolution) wrong_resolution 0 (in_range k) (inl refl, refl)
    (if_only UnitRefusal (out_of_range k) unit_out_of_range 0 (given k) (inr refl, refl) tt)

-- 4, 12 or 13 at 0
pub distance_refused_with : (num den mag : ℤ) (resolution : ℕ) (n : ℤ) → RefusedOnly DistanceRefusal (rounded_distance num den mag resolution n)
distance_refused_with num den mag resolution n =
    let k = unit_of (nat_abs num) (nat_abs den) (nat_abs mag) resolution in
    if_only DistanceRefusal (not (positive num && positive den && positive mag)) wrong_preamble 0 _ (inl (refl, refl))
    (then_only DistanceRefusal k _ (only_wider UnitRefusal DistanceRefusal k (λ number place may. inr may) (unit_refused_with _ _ _ resolution)) (λ found. tt))
