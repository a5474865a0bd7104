-- A page's state: what it holds, a fresh one, and how it changes. Assumes nothing.
use Rattle.std.specs.Prelude.{ℕ, List, [], ◌∷◌, ℤ, pos, ◌+ℤ◌}
use Rattle.names.specs.Names.{any_name}
use Rattle.state.specs.declared.Level.{Level}
use Rattle.state.specs.declared.Font.{Font}
use Rattle.state.specs.declared.moving.Direction.{Direction}
use Rattle.state.specs.declared.moving.Direction.TheVariants.{Sideways, Down}
use Rattle.state.specs.declared.moving.Stride.{Stride}
use Rattle.state.specs.declared.moving.Ruler.{Ruler}
use Rattle.state.specs.declared.registers.Register.{Register}
use Rattle.state.specs.declared.registers.Register.TheVariants.{W, X, Y, Z}
use Rattle.state.specs.Moving.{Spot, settled, moved}

-- the eight numbers, the levels that push saved, the newest first, and the font (rule 7.1)
pub record State : Type 0 where
  pub level : Level
  pub saved : List Level
  pub font : Font

-- ---- a fresh page

-- the eight numbers of a fresh page (rule 7.1)
abbrev pub zero_level : Level
zero_level = record { h = pos 0; v = pos 0; w = pos 0; x = pos 0; y = pos 0; z = pos 0; hh = pos 0; vv = pos 0 }

-- no font: its scale is 0 (rule 7.1)
abbrev pub unselected : Font
unselected = record { number = 0; checksum = 0; scale = 0; name = any_name }

-- a fresh page (rule 7.1)
abbrev pub fresh_state : State
fresh_state = record { level = zero_level; saved = []; font = unselected }

-- ---- push and pop

-- push saves the eight numbers, and not the font (rule 7.2)
abbrev pub pushed : State → State
pushed s = record { level = s.level; saved = s.level ∷ s.saved; font = s.font }

-- back to the level that was saved last; where none is, 6 was due (rule 7.2)
abbrev pub popped_to : State → List Level → State
popped_to s [] = s
popped_to s (last ∷ before) = record { level = last; saved = before; font = s.font }

-- pop brings back what push saved, and not the font (rule 7.2)
abbrev pub popped : State → State
popped s = popped_to s s.saved

-- ---- moves

-- the position and its pixel in a direction (rule 7.3)
abbrev pub spot_of : Direction → Level → Spot
spot_of Sideways l = record { position = l.h; pixel = l.hh }
spot_of Down l = record { position = l.v; pixel = l.vv }

-- a level with another position and pixel in a direction (rule 7.3)
abbrev pub at_spot : Direction → Spot → Level → Level
at_spot Sideways spot l = record { h = spot.position; v = l.v; w = l.w; x = l.x; y = l.y; z = l.z; hh = spot.pixel; vv = l.vv }
at_spot Down spot l = record { h = l.h; v = spot.position; w = l.w; x = l.x; y = l.y; z = l.z; hh = l.hh; vv = spot.pixel }

-- a level moved by n in a direction and a stride (rules 7.3, 7.4)
abbrev pub moved_by : Direction → Stride → Ruler → ℕ → ℤ → Level → Level
moved_by direction stride ruler scale n l = at_spot direction (moved direction stride ruler scale n (spot_of direction l)) l

-- past a character that was set: h grows by the width, hh by the table's escapement, and hh is held near (rule 7.6)
abbrev pub character_moved : Ruler → ℤ → ℤ → Level → Level
character_moved ruler width escapement l = at_spot Sideways (settled ruler (l.h +ℤ width) (l.hh +ℤ escapement)) l

-- ---- the registers w, x, y, z

-- what a register holds (rule 7.9)
abbrev pub register_of : Register → Level → ℤ
register_of W l = l.w
register_of X l = l.x
register_of Y l = l.y
register_of Z l = l.z

-- a level with n in a register (rule 7.9)
abbrev pub with_register : Register → ℤ → Level → Level
with_register W n l = record { h = l.h; v = l.v; w = n; x = l.x; y = l.y; z = l.z; hh = l.hh; vv = l.vv }
with_register X n l = record { h = l.h; v = l.v; w = l.w; x = n; y = l.y; z = l.z; hh = l.hh; vv = l.vv }
with_register Y n l = record { h = l.h; v = l.v; w = l.w; x = l.x; y = n; z = l.z; hh = l.hh; vv = l.vv }
with_register Z n l = record { h = l.h; v = l.v; w = l.w; x = l.x; y = l.y; z = n; hh = l.hh; vv = l.vv }

-- the direction in which a register moves (rule 7.9)
abbrev pub direction_of : Register → Direction
direction_of W = Sideways
direction_of X = Sideways
direction_of Y = Down
direction_of Z = Down

-- a level with n in a register, moved by n in the register's direction and a stride (rules 7.3, 7.9)
abbrev pub moved_by_register : Register → Stride → Ruler → ℕ → ℤ → Level → Level
moved_by_register register stride ruler scale n l = moved_by (direction_of register) stride ruler scale n (with_register register n l)
