-- The starred examples on moves. Assumes nothing.
use Rattle.std.specs.Prelude.{ℕ, zero, suc, ◌≡◌, refl, List, [], ◌∷◌, map, ℤ, pos, negsuc}
use Rattle.units.specs.Rounding.{nearest_whole}
use Rattle.state.specs.declared.moving.Direction.TheVariants.{Sideways}
use Rattle.state.specs.declared.moving.Stride.TheVariants.{Rounded}
use Rattle.state.specs.declared.moving.Ruler.{Ruler}
use Rattle.state.specs.Moving.{Spot, moved}

-- how often a move by how much is made, and the h and hh that it must lead to
pub record MoveExample : Type 0 where
  pub times : ℕ
  pub distance : ℤ
  pub printed : Spot

-- the ruler of the examples; the font's scale is 100
abbrev pub ruler : Ruler
ruler = record { k = record { p = 3; q = 10 }; drift = 2 }

-- the same move so many times
abbrev pub repeated : ℕ → ℤ → Spot → Spot
repeated zero n spot = spot
repeated (suc times) n spot = repeated times n (moved Sideways Rounded ruler 100 n spot)

-- six moves by 5 and by −5: each is rounded to 2 or −2, and D holds the sum back
abbrev pub move_examples : List MoveExample
move_examples =
    record { times = 6; distance = pos 5; printed = record { position = pos 30; pixel = pos 11 } }
    ∷ record { times = 6; distance = negsuc 4; printed = record { position = negsuc 29; pixel = negsuc 10 } }
    ∷ []

-- what the definitions give for an example, from 0
abbrev pub move_found : MoveExample → Spot
move_found e = repeated e.times e.distance (record { position = pos 0; pixel = pos 0 })

-- the definitions give what they must
pub moves_hold : map move_found move_examples ≡ map (λ e. e.printed) move_examples
unfolding nearest_whole
moves_hold = refl
