-- A level that is kept with its roundings: it stands for the level that is meant, and its roundings are those of its positions, whatever moves. Assumes nothing.
use Prim.Native.Nat.{ℕ, ◌+◌, ◌-◌, ◌≤◌, ◌<◌, ◌^◌}
use mathlib.Core.Path.{◌≡◌, refl, sym, ap, ◌∙◌, subst}
use mathlib.Core.Bool.{Bool, true, false}
use native.Mathlib.Omega.{arith}
use borrow.Author.Tests.{eqb-true, eqb-false}
use lib.Dec.{eqb}
use lib.ListN.{length, get_or, set}
use lib.Seq.{get_or-set_same, get_or-set_other}
use lib.IntN.{ℤ, nat_abs}
use mathlib.Core.List.{List}
use Rattle.units.specs.declared.Ratio.{Ratio}
use Rattle.units.proofs.Rounding.{rounded_zero}
use Rattle.state.specs.declared.KeptLevel.{KeptLevel}
use Rattle.state.specs.declared.moving.Direction.{Direction}
use Rattle.state.specs.declared.moving.Direction.TheVariants.{Sideways, Down}
use Rattle.state.specs.declared.moving.Stride.{Stride}
use Rattle.state.specs.declared.moving.Ruler.{Ruler}
use Rattle.state.specs.declared.registers.Register.{Register}
use Rattle.state.specs.declared.registers.Register.TheVariants.{W, X, Y, Z}
use Rattle.state.specs.Moving.{Spot}
use Rattle.state.specs.Registers.{spot_of, moved_by, with_register, direction_of, moved_by_register}
use Rattle.state.specs.Steps.{spot_in, kept_spot, Rounds, zero_kept, level_in, other, kept_spot_of, at_kept_spot, kept_with_register, kept_moved_by, RoundsLevel, RoundsBelow, Bounded}
use Rattle.state.proofs.Levels.{spot_in_lem}

-- ---- what it stands for

-- where it stands in a direction
pub spot_kept : (direction : Direction) (l : KeptLevel) → spot_of direction (level_in l) ≡ spot_in (kept_spot_of direction l)
spot_kept Sideways l = refl
spot_kept Down l = refl

-- its position and its pixel are small where the level is in its ranges
pub kept_in : (direction : Direction) (l : KeptLevel) → Bounded (level_in l)
    → (nat_abs (kept_spot_of direction l).position ≤ 2 ^ 31) × (nat_abs (kept_spot_of direction l).pixel ≤ 2 ^ 31)
kept_in direction l b =
    subst (λ (spot : Spot). (nat_abs spot.position ≤ 2 ^ 31) × (nat_abs spot.pixel ≤ 2 ^ 31)) (spot_kept direction l) (spot_in_lem direction (level_in l) b)

-- one that has moved
pub level_moved : (direction : Direction) (stride : Stride) (ruler : Ruler) (scale : ℕ) (n : ℤ) (l : KeptLevel)
    → level_in (kept_moved_by direction stride ruler scale n l) ≡ moved_by direction stride ruler scale n (level_in l)
level_moved Sideways stride ruler scale n l = refl
level_moved Down stride ruler scale n l = refl

-- it stands in the other direction as it stood
pub others_left : (direction : Direction) (stride : Stride) (ruler : Ruler) (scale : ℕ) (n : ℤ) (l : KeptLevel)
    → kept_spot_of (other direction) (kept_moved_by direction stride ruler scale n l) ≡ kept_spot_of (other direction) l
others_left Sideways stride ruler scale n l = refl
others_left Down stride ruler scale n l = refl

-- one with another number in a register
level_register : (register : Register) (n : ℤ) (l : KeptLevel) → level_in (kept_with_register register n l) ≡ with_register register n (level_in l)
level_register W n l = refl
level_register X n l = refl
level_register Y n l = refl
level_register Z n l = refl

-- one that a register has moved
pub level_by_register : (register : Register) (stride : Stride) (ruler : Ruler) (scale : ℕ) (n : ℤ) (l : KeptLevel)
    → level_in (kept_moved_by (direction_of register) stride ruler scale n (kept_with_register register n l)) ≡ moved_by_register register stride ruler scale n (level_in l)
level_by_register register stride ruler scale n l =
    level_moved (direction_of register) stride ruler scale n (kept_with_register register n l) ∙ ap (moved_by (direction_of register) stride ruler scale n) (level_register register n l)

-- a number in a register does not move it
pub unmoved_by_register : (register : Register) (direction : Direction) (n : ℤ) (l : KeptLevel) → kept_spot_of direction (kept_with_register register n l) ≡ kept_spot_of direction l
unmoved_by_register W Sideways n l = refl
unmoved_by_register W Down n l = refl
unmoved_by_register X Sideways n l = refl
unmoved_by_register X Down n l = refl
unmoved_by_register Y Sideways n l = refl
unmoved_by_register Y Down n l = refl
unmoved_by_register Z Sideways n l = refl
unmoved_by_register Z Down n l = refl

-- ---- the roundings

module _ (k : Ratio) where
  -- a fresh level has them, whatever K is
  pub rounds_zero : RoundsLevel k zero_kept
  rounds_zero Sideways = sym (rounded_zero k)
  rounds_zero Down = sym (rounded_zero k)

  -- one that stands elsewhere in a direction has that one's new, and the other one's as it was
  pub rounds_at : (direction : Direction) (spot : Spot) (l : KeptLevel) → RoundsLevel k l → RoundsLevel k (at_kept_spot direction (kept_spot k spot) l)
  rounds_at Sideways spot l rounds Sideways = refl
  rounds_at Sideways spot l rounds Down = rounds Down
  rounds_at Down spot l rounds Sideways = rounds Sideways
  rounds_at Down spot l rounds Down = refl

  -- one with another number in a register keeps them
  pub rounds_register : (register : Register) (n : ℤ) (l : KeptLevel) → RoundsLevel k l → RoundsLevel k (kept_with_register register n l)
  rounds_register register n l rounds direction = subst (Rounds k) (sym (unmoved_by_register register direction n l)) (rounds direction)

  -- one more below the depth, where it was stored above the others
  pub rounds_pushed : (depth : ℕ) (stack : List KeptLevel) (l : KeptLevel) → depth < length stack → RoundsBelow k depth stack → RoundsLevel k l
      → RoundsBelow k (depth + 1) (set stack depth l)
  rounds_pushed depth stack l room below rounds place less = by (eqb depth place) refl
    where
      by : (t : Bool) → eqb depth place ≡ t → RoundsLevel k (get_or (set stack depth l) place zero_kept)
      by true e =
          subst (λ (at : ℕ). RoundsLevel k (get_or (set stack depth l) at zero_kept)) (eqb-true depth place e)
          (subst (RoundsLevel k) (sym (get_or-set_same stack depth l zero_kept room)) rounds)
      by false e =
          subst (RoundsLevel k) (sym (get_or-set_other stack depth place l zero_kept (λ same. eqb-false depth place e (sym same)))) (below place (omega (arith, eqb-false depth place e)))

  -- one less
  pub rounds_popped : (depth : ℕ) (stack : List KeptLevel) → RoundsBelow k depth stack → RoundsBelow k (depth - 1) stack
  rounds_popped depth stack below place less = below place (omega arith)
