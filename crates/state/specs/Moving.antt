-- How a position and its pixel move, sideways and down. Assumes nothing.
use Rattle.std.specs.Prelude.{ℕ, ◌*◌, Bool, cond, ltb, ℤ, pos, nat_abs, ◌+ℤ◌, ◌-ℤ◌}
use Rattle.std.specs.Int.Signed.{lt_z}
use Rattle.units.specs.Rounding.{rounded, rounded_up}
use Rattle.state.specs.declared.moving.Direction.{Direction}
use Rattle.state.specs.declared.moving.Direction.TheVariants.{Sideways, Down}
use Rattle.state.specs.declared.moving.Stride.{Stride}
use Rattle.state.specs.declared.moving.Stride.TheVariants.{Rounded, RoundedUp}
use Rattle.state.specs.declared.moving.Ruler.{Ruler}

-- a position and its pixel: h and hh, or v and vv (rule 7.3)
pub record Spot : Type 0 where
  pub position : ℤ
  pub pixel : ℤ

-- a position past the range of h and v (rule 7.5)
abbrev pub leaves : ℤ → Bool
leaves position = ltb 2147483647 (nat_abs position)

-- a move so short, measured by the font's scale, that the pixel goes by the rounded distance (rule 7.3)
abbrev pub near : Direction → ℤ → ℕ → Bool
near Sideways n scale = cond (lt_z n (pos 0)) (ltb (10 * nat_abs n) (9 * scale)) (ltb (5 * nat_abs n) scale)
near Down n scale = ltb (5 * nat_abs n) (4 * scale)

-- a pixel that is further than D from its centre, the rounded position (rule 7.4)
abbrev pub strays : ℕ → ℤ → ℤ → Bool
strays drift centre pixel = ltb drift (nat_abs (pixel -ℤ centre))

-- one that strays is put D from the centre on its own side (rule 7.4)
abbrev pub drifted : ℕ → ℤ → ℤ → ℤ
drifted drift centre pixel = cond (strays drift centre pixel) (cond (lt_z centre pixel) (centre +ℤ pos drift) (centre -ℤ pos drift)) pixel

-- a new position, with a pixel that is held to it (rule 7.4)
abbrev pub settled : Ruler → ℤ → ℤ → Spot
settled ruler position pixel = record { position = position; pixel = drifted ruler.drift (rounded ruler.k position) pixel }

-- where a move by n takes the pixel: rounded, by rounded n where the move is near, else to the rounded new position; rounded up, which nothing asks of a move down, by n rounded up, near or far (rule 7.3)
abbrev pub followed : Direction → Stride → Ruler → ℕ → ℤ → Spot → ℤ
followed direction Rounded ruler scale n spot =
    cond (near direction n scale) (spot.pixel +ℤ rounded ruler.k n) (rounded ruler.k (spot.position +ℤ n))
followed direction RoundedUp ruler scale n spot = spot.pixel +ℤ rounded_up ruler.k n

-- a move by n: the position grows by n, the pixel follows and is held to it (rules 7.3, 7.4)
abbrev pub moved : Direction → Stride → Ruler → ℕ → ℤ → Spot → Spot
moved direction stride ruler scale n spot = settled ruler (spot.position +ℤ n) (followed direction stride ruler scale n spot)
