-- The pixels of a page's state stay within D of its rounded positions, whatever moves. The stride that is rounded up takes the pixel on by just the distance
-- rounded up, or by a pixel more or less where D moves it. Without a font a move in the rounded stride sets it to the rounded position. Assumes nothing.
use Prim.Native.Nat.{ℕ, ◌+◌, ◌*◌, ◌≤◌, ◌<◌}
use mathlib.Core.Path.{◌≡◌, sym, ap, subst}
use mathlib.Core.Bool.{Bool, true, false, cond}
use native.Mathlib.Omega.{arith}
use borrow.Author.Tests.{le-ltb}
use lib.IntN.{ℤ, pos, nat_abs, ◌+ℤ◌, ◌-ℤ◌}
use lib.Signed.{lt_z}
use Rattle.numbers.proofs.Signed.{sum, diff, abs_sum, same}
use Rattle.units.specs.Rounding.{rounded, rounded_up}
use Rattle.units.proofs.Rounding.{rounded_zero}
use Rattle.units.proofs.Sums.{one_apart}
use Rattle.state.specs.declared.Level.{Level}
use Rattle.state.specs.declared.moving.Direction.{Direction}
use Rattle.state.specs.declared.moving.Direction.TheVariants.{Sideways, Down}
use Rattle.state.specs.declared.moving.Stride.{Stride}
use Rattle.state.specs.declared.moving.Stride.TheVariants.{Rounded, RoundedUp}
use Rattle.state.specs.declared.moving.Ruler.{Ruler}
use Rattle.state.specs.declared.registers.Register.{Register}
use Rattle.state.specs.Moving.{Spot, near, strays, settled, followed, moved}
use Rattle.state.specs.Registers.{zero_level, fresh_state, spot_of, at_spot, moved_by, character_moved, with_register, direction_of, moved_by_register}
use Rattle.state.specs.Nearby.{Near, StateNear}
use Rattle.state.proofs.Nearness.{within, held, held_nearly, held_there}
use Rattle.state.proofs.Levels.{register_spot}

module _ (ruler : Ruler) where
  -- ---- near

  -- a spot as near as it must be
  abbrev NearSpot : Spot → Type 0
  NearSpot spot = nat_abs (spot.pixel -ℤ rounded ruler.k spot.position) ≤ ruler.drift

  -- a level is near where its spot has settled
  near_settled : (direction : Direction) (position pixel : ℤ) (l : Level) → Near ruler l → Near ruler (at_spot direction (settled ruler position pixel) l)
  near_settled Sideways position pixel l near Sideways = held ruler.drift (rounded ruler.k position) pixel
  near_settled Sideways position pixel l near Down = near Down
  near_settled Down position pixel l near Sideways = near Sideways
  near_settled Down position pixel l near Down = held ruler.drift (rounded ruler.k position) pixel

  -- so after a move, in either direction and stride
  pub near_moved : (direction : Direction) (stride : Stride) (scale : ℕ) (n : ℤ) (l : Level) → Near ruler l → Near ruler (moved_by direction stride ruler scale n l)
  near_moved direction stride scale n l near =
      let spot = spot_of direction l in near_settled direction (spot.position +ℤ n) (followed direction stride ruler scale n spot) l near

  -- after a character that was set
  pub near_character : (width escapement : ℤ) (l : Level) → Near ruler l → Near ruler (character_moved ruler width escapement l)
  near_character width escapement l near = near_settled Sideways (l.h +ℤ width) (l.hh +ℤ escapement) l near

  -- and after a move by a register
  pub near_register : (register : Register) (stride : Stride) (scale : ℕ) (n : ℤ) (l : Level) → Near ruler l → Near ruler (moved_by_register register stride ruler scale n l)
  near_register register stride scale n l near =
      near_moved (direction_of register) stride scale n (with_register register n l)
      (λ direction. subst NearSpot (sym (register_spot register direction n l)) (near direction))

  -- a fresh page is near
  pub near_fresh : StateNear ruler fresh_state
  near_fresh = (zero, tt)
    where
      at_zero : nat_abs (pos 0 -ℤ rounded ruler.k (pos 0)) ≤ ruler.drift
      at_zero = subst (λ (centre : ℤ). nat_abs (pos 0 -ℤ centre) ≤ ruler.drift) (sym (rounded_zero ruler.k)) (omega arith)

      zero : Near ruler zero_level
      zero Sideways = at_zero
      zero Down = at_zero

  -- ---- the stride that is rounded up

  module _ (spot : Spot) (n : ℤ) where
    -- where it leads before the pixel is held, and the centre to which that is held
    abbrev ahead : ℤ
    ahead = spot.pixel +ℤ rounded_up ruler.k n

    abbrev centre : ℤ
    centre = rounded ruler.k (spot.position +ℤ n)

    -- the one is at most one pixel further from the other than the pixel was from the rounded position
    ahead_off : nat_abs (ahead -ℤ centre) ≤ nat_abs (spot.pixel -ℤ rounded ruler.k spot.position) + 1
    ahead_off =
        let before = rounded ruler.k spot.position in
        let step = rounded_up ruler.k n in
        let off = spot.pixel -ℤ before in
        let grown = (before +ℤ step) -ℤ centre in
        let apart : ahead -ℤ centre ≡ off +ℤ grown =
        same _ _ (omega (arith, sum spot.pixel step, diff ahead centre, diff spot.pixel before, sum before step, diff (before +ℤ step) centre, sum off grown)) in
        within (nat_abs off + 1) apart (omega (arith, abs_sum off grown, one_apart ruler.k spot.position n))

  -- where the pixel does not stray, it has gone by just the distance rounded up
  pub up_unheld : (direction : Direction) (scale : ℕ) (n : ℤ) (spot : Spot)
      → strays ruler.drift (rounded ruler.k (spot.position +ℤ n)) (spot.pixel +ℤ rounded_up ruler.k n) ≡ false
      → (moved direction RoundedUp ruler scale n spot).pixel ≡ spot.pixel +ℤ rounded_up ruler.k n
  up_unheld direction scale n spot stays =
      let to = ahead spot n in
      let at = centre spot n in
      ap (λ (t : Bool). cond t (cond (lt_z at to) (at +ℤ pos ruler.drift) (at -ℤ pos ruler.drift)) to) stays

  -- it does not stray where it was less than D from the rounded position before
  pub up_stays : (n : ℤ) (spot : Spot) → nat_abs (spot.pixel -ℤ rounded ruler.k spot.position) < ruler.drift
      → strays ruler.drift (rounded ruler.k (spot.position +ℤ n)) (spot.pixel +ℤ rounded_up ruler.k n) ≡ false
  up_stays n spot less = le-ltb ruler.drift _ (omega (arith, ahead_off spot n, less))

  -- and from within D it is moved by at most one pixel
  pub up_nearly : (direction : Direction) (scale : ℕ) (n : ℤ) (spot : Spot) → nat_abs (spot.pixel -ℤ rounded ruler.k spot.position) ≤ ruler.drift
      → nat_abs ((moved direction RoundedUp ruler scale n spot).pixel -ℤ (spot.pixel +ℤ rounded_up ruler.k n)) ≤ 1
  up_nearly direction scale n spot near = held_nearly ruler.drift (centre spot n) (ahead spot n) (omega (arith, ahead_off spot n, near))

  -- ---- without a font

  -- nothing is near
  never_near : (direction : Direction) (n : ℤ) → near direction n 0 ≡ false
  never_near Sideways n = either (lt_z n (pos 0)) (le-ltb (10 * nat_abs n) 0 (omega arith)) (le-ltb (5 * nat_abs n) 0 (omega arith))
    where
      either : (t : Bool) {a b : Bool} → a ≡ false → b ≡ false → cond t a b ≡ false
      either true p q = p
      either false p q = q
  never_near Down n = le-ltb (5 * nat_abs n) 0 (omega arith)

  -- a pixel at its centre is held there
  settled_centred : (position : ℤ) → settled ruler position (rounded ruler.k position) ≡ record { position = position; pixel = rounded ruler.k position }
  settled_centred position = ap (λ (pixel : ℤ). record { position = position; pixel = pixel }) (held_there ruler.drift (rounded ruler.k position))

  -- so a move in the rounded stride, one of 0 too, sets the pixel to the rounded position, wherever a bar has left it
  pub fontless_sets_back : (direction : Direction) (n : ℤ) (spot : Spot)
      → moved direction Rounded ruler 0 n spot ≡ record { position = spot.position +ℤ n; pixel = rounded ruler.k (spot.position +ℤ n) }
  fontless_sets_back direction n spot = rw (never_near direction n) (settled_centred (spot.position +ℤ n))
