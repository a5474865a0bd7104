-- How near the pixels of a page's state are to its positions. What the laws on that are stated with. Assumes nothing.
use Rattle.std.specs.Prelude.{◌≤◌, List, [], ◌∷◌, nat_abs, ◌-ℤ◌}
use Rattle.units.specs.Rounding.{rounded}
use Rattle.state.specs.declared.Level.{Level}
use Rattle.state.specs.declared.moving.Direction.{Direction}
use Rattle.state.specs.declared.moving.Ruler.{Ruler}
use Rattle.state.specs.Registers.{State, spot_of}

-- in either direction the pixel of a level is at most D from the rounded position (rule 7.4)
abbrev pub Near : Ruler → Level → Type 0
Near ruler l = (direction : Direction) → nat_abs ((spot_of direction l).pixel -ℤ rounded ruler.k (spot_of direction l).position) ≤ ruler.drift

-- so in each of some levels (rule 7.4)
abbrev pub AllNear : Ruler → List Level → Type 0
AllNear ruler [] = Unit {0}
AllNear ruler (l ∷ levels) = Near ruler l × AllNear ruler levels

-- so in a state, the levels that it has saved included (rule 7.4)
abbrev pub StateNear : Ruler → State → Type 0
StateNear ruler s = Near ruler s.level × AllNear ruler s.saved
