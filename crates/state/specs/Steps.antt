-- What the code holds of a page's state, and what its steps ask; no promise cites this. Assumes nothing.
use Rattle.std.specs.Prelude.{ℕ, zero, suc, ◌≤◌, ◌<◌, ◌^◌, ◌≡◌, Bool, cond, List, [], ◌∷◌, get_or, ℤ, pos, nat_abs, ◌+ℤ◌}
use Rattle.std.specs.Int.Signed.{lt_z}
use Rattle.units.specs.declared.Ratio.{Ratio}
use Rattle.units.specs.Rounding.{rounded, rounded_up}
use Rattle.units.specs.Steps.{Workable}
use Rattle.state.specs.declared.Font.{Font}
use Rattle.state.specs.declared.Level.{Level}
use Rattle.state.specs.declared.KeptLevel.{KeptLevel}
use Rattle.state.specs.declared.Page.{Page}
use Rattle.state.specs.declared.moving.Direction.{Direction}
use Rattle.state.specs.declared.moving.Direction.TheVariants.{Sideways, Down}
use Rattle.state.specs.declared.moving.Stride.{Stride}
use Rattle.state.specs.declared.moving.Stride.TheVariants.{Rounded, RoundedUp}
use Rattle.state.specs.declared.moving.Ruler.{Ruler}
use Rattle.state.specs.declared.moving.KeptSpot.{KeptSpot}
use Rattle.state.specs.declared.registers.Register.{Register}
use Rattle.state.specs.declared.registers.Register.TheVariants.{W, X, Y, Z}
use Rattle.state.specs.Moving.{Spot, settled, moved}
use Rattle.state.specs.Registers.{State}

-- how many tenths of the font's scale a near move is shorter than
abbrev pub tenths : Direction → ℤ → ℕ
tenths Sideways n = cond (lt_z n (pos 0)) 9 2
tenths Down n = 8

-- where a move by n takes the pixel, by whether it is near; the centre is the rounded new position
abbrev pub followed_to : Bool → Stride → Ruler → ℤ → ℤ → ℤ → ℤ
followed_to near Rounded ruler n pixel centre = cond near (pixel +ℤ rounded ruler.k n) centre
followed_to near RoundedUp ruler n pixel centre = pixel +ℤ rounded_up ruler.k n

-- ---- a spot with its rounding

-- the spot that a kept one stands for
abbrev pub spot_in : KeptSpot → Spot
spot_in s = record { position = s.position; pixel = s.pixel }

-- a spot as it is kept, with its position rounded by K
abbrev pub kept_spot : Ratio → Spot → KeptSpot
kept_spot k spot = record { position = spot.position; rounded = rounded k spot.position; pixel = spot.pixel }

-- the number kept is the position rounded by K
abbrev pub Rounds : Ratio → KeptSpot → Type 0
Rounds k s = s.rounded ≡ rounded k s.position

-- ---- a level with its roundings

-- all of it zeros
abbrev pub zero_kept : KeptLevel
zero_kept =
    let origin : KeptSpot = record { position = pos 0; rounded = pos 0; pixel = pos 0 } in
    record { across = origin; down = origin; w = pos 0; x = pos 0; y = pos 0; z = pos 0 }

-- the eight numbers of a kept level
abbrev pub level_in : KeptLevel → Level
level_in l =
    record { h = l.across.position; v = l.down.position; w = l.w; x = l.x; y = l.y; z = l.z; hh = l.across.pixel; vv = l.down.pixel }

-- where it stands in a direction
abbrev pub kept_spot_of : Direction → KeptLevel → KeptSpot
kept_spot_of Sideways l = l.across
kept_spot_of Down l = l.down

-- sideways for down, and down for sideways
abbrev pub other : Direction → Direction
other Sideways = Down
other Down = Sideways

-- one that stands elsewhere in a direction
abbrev pub at_kept_spot : Direction → KeptSpot → KeptLevel → KeptLevel
at_kept_spot Sideways spot l = record { across = spot; down = l.down; w = l.w; x = l.x; y = l.y; z = l.z }
at_kept_spot Down spot l = record { across = l.across; down = spot; w = l.w; x = l.x; y = l.y; z = l.z }

-- one with n in a register
abbrev pub kept_with_register : Register → ℤ → KeptLevel → KeptLevel
kept_with_register W n l = record { across = l.across; down = l.down; w = n; x = l.x; y = l.y; z = l.z }
kept_with_register X n l = record { across = l.across; down = l.down; w = l.w; x = n; y = l.y; z = l.z }
kept_with_register Y n l = record { across = l.across; down = l.down; w = l.w; x = l.x; y = n; z = l.z }
kept_with_register Z n l = record { across = l.across; down = l.down; w = l.w; x = l.x; y = l.y; z = n }

-- one moved by n in a direction and a stride: the new position alone is rounded
abbrev pub kept_moved_by : Direction → Stride → Ruler → ℕ → ℤ → KeptLevel → KeptLevel
kept_moved_by direction stride ruler scale n l =
    at_kept_spot direction (kept_spot ruler.k (moved direction stride ruler scale n (spot_in (kept_spot_of direction l)))) l

-- one past a character that was set
abbrev pub kept_past : Ruler → ℤ → ℤ → KeptLevel → KeptLevel
kept_past ruler width escapement l =
    at_kept_spot Sideways (kept_spot ruler.k (settled ruler (l.across.position +ℤ width) (l.across.pixel +ℤ escapement))) l

-- in either direction the number kept is the rounded position
abbrev pub RoundsLevel : Ratio → KeptLevel → Type 0
RoundsLevel k l = (direction : Direction) → Rounds k (kept_spot_of direction l)

-- so in the levels below a depth
abbrev pub RoundsBelow : Ratio → ℕ → List KeptLevel → Type 0
RoundsBelow k depth stack = (place : ℕ) → place < depth → RoundsLevel k (get_or stack place zero_kept)

-- ---- the page

-- the levels below a depth, the highest first
abbrev pub saved_of : ℕ → List KeptLevel → List Level
saved_of zero stack = []
saved_of (suc depth) stack = level_in (get_or stack depth zero_kept) ∷ saved_of depth stack

-- the state that the code's page stands for
abbrev pub page_state : Page → State
page_state p = record { level = level_in p.now; saved = saved_of p.depth p.stack; font = p.font }

-- a page with another current level
abbrev pub with_level : Page → KeptLevel → Page
with_level p l = record { now = l; depth = p.depth; font = p.font; stack = p.stack }

-- a page with another font
abbrev pub with_font : Page → Font → Page
with_font p font = record { now = p.now; depth = p.depth; font = font; stack = p.stack }

-- ---- ranges

-- K and D that the code can work with, and a font's scale or 0
pub record Ruled (ruler : Ruler) (scale : ℕ) : Type 0 where
  pub unit : Workable ruler.k
  pub drift_small : ruler.drift ≤ 2
  pub scale_small : scale ≤ 134217727

-- a level whose numbers are in their ranges
pub record Bounded (l : Level) : Type 0 where
  pub h_in : nat_abs l.h ≤ 2147483647
  pub v_in : nat_abs l.v ≤ 2147483647
  pub w_in : nat_abs l.w ≤ 2 ^ 31
  pub x_in : nat_abs l.x ≤ 2 ^ 31
  pub y_in : nat_abs l.y ≤ 2 ^ 31
  pub z_in : nat_abs l.z ≤ 2 ^ 31
  pub hh_in : nat_abs l.hh ≤ 2 ^ 31
  pub vv_in : nat_abs l.vv ≤ 2 ^ 31

-- all of some levels are
abbrev pub AllBounded : List Level → Type 0
AllBounded [] = Unit {0}
AllBounded (l ∷ levels) = Bounded l × AllBounded levels
