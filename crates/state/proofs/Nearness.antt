-- A pixel stays near its position: within D of the rounded position after every move, whatever the direction. Near moves, by tenths of the font's scale. Assumes nothing.
use Prim.Native.Nat.{ℕ, ◌+◌, ◌*◌, ◌≤◌}
use mathlib.Core.Path.{◌≡◌, refl, sym, ap, subst}
use mathlib.Core.Bool.{Bool, true, false, cond}
use native.Mathlib.Omega.{arith}
use borrow.Author.Tests.{ltb-true, ltb-false, lt-ltb, le-ltb}
use lib.Dec.{ltb}
use lib.IntN.{ℤ, pos, nat_abs, neg_ℤ, ◌+ℤ◌, ◌-ℤ◌}
use lib.Signed.{lt_z}
use Rattle.numbers.proofs.Signed.{abs_is, sum, diff, up_neg, dn_neg, one_part, abs_within, abs_neg, abs_sum, same, lt_yes, lt_no}
use Rattle.units.specs.Steps.{Workable}
use Rattle.units.specs.Rounding.{rounded}
use Rattle.units.proofs.Rounding.{rounded_half}
use Rattle.state.specs.declared.moving.Direction.{Direction}
use Rattle.state.specs.declared.moving.Direction.TheVariants.{Sideways, Down}
use Rattle.state.specs.declared.moving.Ruler.{Ruler}
use Rattle.state.specs.Moving.{near, drifted, settled}
use Rattle.state.specs.Steps.{tenths}

above : (centre : ℤ) (d : ℕ) → (centre +ℤ pos d) -ℤ centre ≡ pos d
above centre d = same _ _ (omega (arith, sum centre (pos d), diff (centre +ℤ pos d) centre))

below : (centre : ℤ) (d : ℕ) → (centre -ℤ pos d) -ℤ centre ≡ neg_ℤ (pos d)
below centre d = same _ _ (omega (arith, diff centre (pos d), diff (centre -ℤ pos d) centre, up_neg (pos d), dn_neg (pos d)))

-- a number is as small as one that it is equal to
pub within : (d : ℕ) {z w : ℤ} → z ≡ w → nat_abs w ≤ d → nat_abs z ≤ d
within d e h = subst (λ (z : ℤ). nat_abs z ≤ d) (sym e) h

held_by : (far side : Bool) (d : ℕ) (centre pixel : ℤ) → ltb d (nat_abs (pixel -ℤ centre)) ≡ far
    → nat_abs (cond far (cond side (centre +ℤ pos d) (centre -ℤ pos d)) pixel -ℤ centre) ≤ d
held_by true true d centre pixel e = within d (above centre d) (omega arith)
held_by true false d centre pixel e = within d (below centre d) (omega (arith, abs_neg (pos d)))
held_by false side d centre pixel e = ltb-false d (nat_abs (pixel -ℤ centre)) e

-- the pixel is at most D from the centre
pub held : (d : ℕ) (centre pixel : ℤ) → nat_abs (drifted d centre pixel -ℤ centre) ≤ d
held d centre pixel = held_by (ltb d (nat_abs (pixel -ℤ centre))) (lt_z centre pixel) d centre pixel refl

-- one that is at most one pixel further away than it may be is moved by at most one
nearly_by : (far side : Bool) (d : ℕ) (centre pixel : ℤ) → ltb d (nat_abs (pixel -ℤ centre)) ≡ far → lt_z centre pixel ≡ side → nat_abs (pixel -ℤ centre) ≤ d + 1
    → nat_abs (cond far (cond side (centre +ℤ pos d) (centre -ℤ pos d)) pixel -ℤ pixel) ≤ 1
nearly_by true true d centre pixel e f gap =
    let off = pixel -ℤ centre in
    let put = centre +ℤ pos d in
    abs_within (put -ℤ pixel) 1
    (omega (arith, diff pixel centre, abs_is off, one_part off, ltb-true d (nat_abs off) e, lt_yes centre pixel f, sum centre (pos d), diff put pixel))
    (omega (arith, diff pixel centre, abs_is off, one_part off, ltb-true d (nat_abs off) e, lt_yes centre pixel f, sum centre (pos d), diff put pixel))
nearly_by true false d centre pixel e f gap =
    let off = pixel -ℤ centre in
    let put = centre -ℤ pos d in
    abs_within (put -ℤ pixel) 1
    (omega (arith, diff pixel centre, abs_is off, one_part off, ltb-true d (nat_abs off) e, lt_no centre pixel f, diff centre (pos d), diff put pixel))
    (omega (arith, diff pixel centre, abs_is off, one_part off, ltb-true d (nat_abs off) e, lt_no centre pixel f, diff centre (pos d), diff put pixel))
nearly_by false side d centre pixel e f gap = within 1 (same (pixel -ℤ pixel) (pos 0) (omega (arith, diff pixel pixel))) (omega arith)

pub held_nearly : (d : ℕ) (centre pixel : ℤ) → nat_abs (pixel -ℤ centre) ≤ d + 1 → nat_abs (drifted d centre pixel -ℤ pixel) ≤ 1
held_nearly d centre pixel gap = nearly_by (ltb d (nat_abs (pixel -ℤ centre))) (lt_z centre pixel) d centre pixel refl refl gap

-- a pixel is the centre and what it is off
apart : (pixel centre : ℤ) → pixel ≡ centre +ℤ (pixel -ℤ centre)
apart pixel centre = same _ _ (omega (arith, diff pixel centre, sum centre (pixel -ℤ centre)))

-- so it is about half as far from 0 as the position is
pub settled_small : (ruler : Ruler) → Workable ruler.k → (position pixel : ℤ)
    → nat_abs (settled ruler position pixel).pixel + nat_abs (settled ruler position pixel).pixel ≤ nat_abs position + 1 + (ruler.drift + ruler.drift)
settled_small ruler a position pixel =
    let centre = rounded ruler.k position in
    let put = drifted ruler.drift centre pixel in
    let off : nat_abs put ≤ nat_abs centre + nat_abs (put -ℤ centre) = subst (λ (z : ℤ). nat_abs z ≤ nat_abs centre + nat_abs (put -ℤ centre)) (sym (apart put centre)) (abs_sum centre (put -ℤ centre)) in
    omega (arith, off, held ruler.drift centre pixel, rounded_half a position)

-- a pixel that stands at its centre stays there, however far it may stand
pub held_there : (d : ℕ) (centre : ℤ) → drifted d centre centre ≡ centre
held_there d centre =
    ap (λ (far : Bool). cond far (cond (lt_z centre centre) (centre +ℤ pos d) (centre -ℤ pos d)) centre)
    (le-ltb d _ (within d (same (centre -ℤ centre) (pos 0) (omega (arith, diff centre centre))) (omega arith)))

-- ---- near moves, by tenths of the scale

-- a test of two numbers is that of their doubles
doubled : (a b a' b' : ℕ) → a' ≡ 2 * a → b' ≡ 2 * b → ltb a' b' ≡ ltb a b
doubled a b a' b' twice-a twice-b = by (ltb a b) refl
  where
    by : (t : Bool) → ltb a b ≡ t → ltb a' b' ≡ t
    by true e = lt-ltb a' b' (omega (arith, twice-a, twice-b, ltb-true a b e))
    by false e = le-ltb a' b' (omega (arith, twice-a, twice-b, ltb-false a b e))

pub near_tenths : (direction : Direction) (n : ℤ) (scale : ℕ) → ltb (10 * nat_abs n) (tenths direction n * scale) ≡ near direction n scale
near_tenths Sideways n scale = by (lt_z n (pos 0))
  where
    by : (t : Bool) → ltb (10 * nat_abs n) (cond t 9 2 * scale) ≡ cond t (ltb (10 * nat_abs n) (9 * scale)) (ltb (5 * nat_abs n) scale)
    by true = refl
    by false = doubled (5 * nat_abs n) scale (10 * nat_abs n) (2 * scale) (omega arith) (omega arith)
near_tenths Down n scale = doubled (5 * nat_abs n) (4 * scale) (10 * nat_abs n) (8 * scale) (omega arith) (omega arith)

-- at most nine
pub few_tenths : (direction : Direction) (n : ℤ) → tenths direction n ≤ 9
few_tenths Sideways n = by (lt_z n (pos 0))
  where
    by : (t : Bool) → cond t 9 2 ≤ 9
    by true = omega arith
    by false = omega arith
few_tenths Down n = omega arith
