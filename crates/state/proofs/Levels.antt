-- Levels stay in their ranges, and where the saved ones stand. Assumes nothing.
use Prim.Native.Nat.{ℕ, zero, suc, ◌-◌, ◌≤◌, ◌<◌, ◌^◌}
use mathlib.Core.Path.{◌≡◌, refl, sym, ap, ap₂, subst}
use mathlib.Core.Bool.{false}
use mathlib.Core.List.{List, ◌∷◌}
use native.Mathlib.Numerals.{sub-one}
use native.Mathlib.Omega.{arith}
use borrow.Author.Tests.{ltb-false}
use lib.ListN.{length, get_or, set}
use lib.Seq.{get_or-set_same, get_or-set_other}
use lib.IntN.{ℤ, nat_abs, ◌+ℤ◌}
use Rattle.units.specs.declared.Ratio.{Ratio}
use Rattle.units.specs.Steps.{Workable}
use Rattle.units.specs.Rounding.{rounded}
use Rattle.units.proofs.Rounding.{rounded_half}
use Rattle.state.specs.declared.Level.{Level}
use Rattle.state.specs.declared.KeptLevel.{KeptLevel}
use Rattle.state.specs.declared.Page.{Page}
use Rattle.state.specs.declared.moving.Direction.{Direction}
use Rattle.state.specs.declared.moving.Direction.TheVariants.{Sideways, Down}
use Rattle.state.specs.declared.moving.Stride.{Stride}
use Rattle.state.specs.declared.moving.Ruler.{Ruler}
use Rattle.state.specs.Moving.{Spot, leaves, settled, followed}
use Rattle.state.specs.declared.registers.Register.{Register}
use Rattle.state.specs.declared.registers.Register.TheVariants.{W, X, Y, Z}
use Rattle.state.specs.Registers.{zero_level, spot_of, at_spot, moved_by, character_moved, register_of, with_register, direction_of, moved_by_register}
use Rattle.state.specs.Steps.{zero_kept, level_in, saved_of, page_state, Ruled, Bounded}
use Rattle.state.proofs.Nearness.{settled_small}

-- ---- ranges

-- a fresh page's level is in its ranges
pub bounded_zero : Bounded zero_level
bounded_zero =
    record { h_in = omega arith; v_in = omega arith; w_in = omega arith; x_in = omega arith; y_in = omega arith; z_in = omega arith; hh_in = omega arith; vv_in = omega arith }

-- a position that does not leave its range
pub position_in : (position : ℤ) → leaves position ≡ false → nat_abs position ≤ 2147483647
position_in position stays = ltb-false 2147483647 (nat_abs position) stays

-- the rounding of such a position
pub centre_in : {k : Ratio} → Workable k → (position : ℤ) → leaves position ≡ false → nat_abs (rounded k position) ≤ 2 ^ 31
centre_in workable position stays = omega (arith, rounded_half workable position, position_in position stays)

-- the pixel that moved along with such a position
pub pixel_in : (ruler : Ruler) (scale : ℕ) (position pixel : ℤ) → Ruled ruler scale → leaves position ≡ false → nat_abs (settled ruler position pixel).pixel ≤ 2 ^ 31
pixel_in ruler scale position pixel ruled stays =
    omega (arith, settled_small ruler ruled.unit position pixel, position_in position stays, ruled.drift_small)

-- the spot of a level in its ranges is small in either direction
pub spot_in_lem : (direction : Direction) (l : Level) → Bounded l → (nat_abs (spot_of direction l).position ≤ 2 ^ 31) × (nat_abs (spot_of direction l).pixel ≤ 2 ^ 31)
spot_in_lem Sideways l b = (omega (arith, b.h_in), b.hh_in)
spot_in_lem Down l b = (omega (arith, b.v_in), b.vv_in)

-- a level is in its ranges where what moved in it is
bounded_at : (direction : Direction) (spot : Spot) (l : Level) → Bounded l
    → nat_abs spot.position ≤ 2147483647 → nat_abs spot.pixel ≤ 2 ^ 31 → Bounded (at_spot direction spot l)
bounded_at Sideways spot l b position pixel =
    record { h_in = position; v_in = b.v_in; w_in = b.w_in; x_in = b.x_in; y_in = b.y_in; z_in = b.z_in; hh_in = pixel; vv_in = b.vv_in }
bounded_at Down spot l b position pixel =
    record { h_in = b.h_in; v_in = position; w_in = b.w_in; x_in = b.x_in; y_in = b.y_in; z_in = b.z_in; hh_in = b.hh_in; vv_in = pixel }

-- so is one where a position and its pixel have settled
bounded_settled : (direction : Direction) (ruler : Ruler) (scale : ℕ) (position pixel : ℤ) (l : Level) → Ruled ruler scale → Bounded l
    → leaves position ≡ false → Bounded (at_spot direction (settled ruler position pixel) l)
bounded_settled direction ruler scale position pixel l ruled b stays =
    bounded_at direction (settled ruler position pixel) l b (position_in position stays) (pixel_in ruler scale position pixel ruled stays)

-- a move keeps a level in its ranges, in either direction and stride
pub bounded_moved : (direction : Direction) (stride : Stride) (ruler : Ruler) (scale : ℕ) (n : ℤ) (l : Level) → Ruled ruler scale → Bounded l
    → leaves ((spot_of direction l).position +ℤ n) ≡ false
    → Bounded (moved_by direction stride ruler scale n l)
bounded_moved direction stride ruler scale n l ruled b stays =
    let spot = spot_of direction l in
    bounded_settled direction ruler scale (spot.position +ℤ n) (followed direction stride ruler scale n spot) l ruled b stays

-- so does the move after a character
pub bounded_character : (ruler : Ruler) (scale : ℕ) (width escapement : ℤ) (l : Level) → Ruled ruler scale → Bounded l → leaves (l.h +ℤ width) ≡ false
    → Bounded (character_moved ruler width escapement l)
bounded_character ruler scale width escapement l ruled b stays =
    bounded_settled Sideways ruler scale (l.h +ℤ width) (l.hh +ℤ escapement) l ruled b stays

-- ---- registers

-- what a register of such a level holds
pub register_in : (register : Register) (l : Level) → Bounded l → nat_abs (register_of register l) ≤ 2 ^ 31
register_in W l b = b.w_in
register_in X l b = b.x_in
register_in Y l b = b.y_in
register_in Z l b = b.z_in

-- the level with another number in a register is in its ranges too
bounded_register : (register : Register) (n : ℤ) (l : Level) → Bounded l → nat_abs n ≤ 2 ^ 31 → Bounded (with_register register n l)
bounded_register W n l b small =
    record { h_in = b.h_in; v_in = b.v_in; w_in = small; x_in = b.x_in; y_in = b.y_in; z_in = b.z_in; hh_in = b.hh_in; vv_in = b.vv_in }
bounded_register X n l b small =
    record { h_in = b.h_in; v_in = b.v_in; w_in = b.w_in; x_in = small; y_in = b.y_in; z_in = b.z_in; hh_in = b.hh_in; vv_in = b.vv_in }
bounded_register Y n l b small =
    record { h_in = b.h_in; v_in = b.v_in; w_in = b.w_in; x_in = b.x_in; y_in = small; z_in = b.z_in; hh_in = b.hh_in; vv_in = b.vv_in }
bounded_register Z n l b small =
    record { h_in = b.h_in; v_in = b.v_in; w_in = b.w_in; x_in = b.x_in; y_in = b.y_in; z_in = small; hh_in = b.hh_in; vv_in = b.vv_in }

-- and stands where the level stands
pub register_spot : (register : Register) (direction : Direction) (n : ℤ) (l : Level) → spot_of direction (with_register register n l) ≡ spot_of direction l
register_spot W Sideways n l = refl
register_spot W Down n l = refl
register_spot X Sideways n l = refl
register_spot X Down n l = refl
register_spot Y Sideways n l = refl
register_spot Y Down n l = refl
register_spot Z Sideways n l = refl
register_spot Z Down n l = refl

-- so a move by it stays in range where one from the level does
register_stays : (register : Register) (n : ℤ) (l : Level) → leaves ((spot_of (direction_of register) l).position +ℤ n) ≡ false
    → leaves ((spot_of (direction_of register) (with_register register n l)).position +ℤ n) ≡ false
register_stays register n l stays =
    subst (λ (spot : Spot). leaves (spot.position +ℤ n) ≡ false) (sym (register_spot register (direction_of register) n l)) stays

-- and keeps the level in its ranges
pub bounded_by_register : (register : Register) (stride : Stride) (ruler : Ruler) (scale : ℕ) (n : ℤ) (l : Level) → Ruled ruler scale → Bounded l → nat_abs n ≤ 2 ^ 31
    → leaves ((spot_of (direction_of register) l).position +ℤ n) ≡ false
    → Bounded (moved_by_register register stride ruler scale n l)
bounded_by_register register stride ruler scale n l ruled b small stays =
    bounded_moved (direction_of register) stride ruler scale n (with_register register n l) ruled (bounded_register register n l b small) (register_stays register n l stays)

-- ---- the levels that are saved

-- the one that was saved last stands above the others
pub saved_last : (depth : ℕ) (stack : List KeptLevel) → 0 < depth → saved_of depth stack ≡ level_in (get_or stack (depth - 1) zero_kept) ∷ saved_of (depth - 1) stack
saved_last zero stack some = absurd (omega arith)
saved_last (suc depth) stack some = rw sub-one

-- a store above the levels that are saved does not change them
saved_kept : (depth at : ℕ) (stack : List KeptLevel) (l : KeptLevel) → depth ≤ at → saved_of depth (set stack at l) ≡ saved_of depth stack
saved_kept zero at stack l below = refl
saved_kept (suc depth) at stack l below =
    ap₂ ◌∷◌ (ap level_in (get_or-set_other stack at depth l zero_kept (λ same. omega arith))) (saved_kept depth at stack l (omega arith))

-- the caller's store before a push changes no state, and leaves the level where push asks it
pub stored : (p : Page) → p.depth < length p.stack
    → (page_state (record { now = p.now; depth = p.depth; font = p.font; stack = set p.stack p.depth p.now }) ≡ page_state p)
    × (get_or (set p.stack p.depth p.now) p.depth zero_kept ≡ p.now)
stored p room = (
  ap (λ (levels : List Level). record { level = level_in p.now; saved = levels; font = p.font }) (saved_kept p.depth p.depth p.stack p.now (omega arith)),
  get_or-set_same p.stack p.depth p.now zero_kept room,
)
