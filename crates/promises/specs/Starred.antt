-- All starred examples, as one list, and what it means that one holds. Assumes nothing.
use Rattle.std.specs.Prelude.{◌≡◌, List, [], ◌∷◌, ◌++◌, map}
use Rattle.units.specs.Starred.{UnitExample, RoundingExample, unit_examples, rounding_examples, unit_found, rounding_found}
use Rattle.scaling.specs.Starred.{WidthExample, width_examples, width_found}
use Rattle.state.specs.Starred.{MoveExample, move_examples, move_found}
use Rattle.volume.specs.Starred.{FileExample, file_examples, file_found}

-- an example: of a whole file, of K, of rounding, of moves, of a width
pub data Example : Type 0 where
  of_file : FileExample → Example
  of_unit : UnitExample → Example
  of_rounding : RoundingExample → Example
  of_moves : MoveExample → Example
  of_width : WidthExample → Example

-- all of them, in the order in which they are printed
abbrev pub starred : List Example
starred =
    map of_file file_examples
    ++ (map of_unit unit_examples ++ (map of_rounding rounding_examples ++ (map of_moves move_examples ++ map of_width width_examples)))

-- an example holds if the definitions give what they must
abbrev pub Holds : Example → Type 0
Holds (of_file e) = file_found e ≡ e.printed
Holds (of_unit e) = unit_found e ≡ e.printed
Holds (of_rounding e) = rounding_found e ≡ e.printed
Holds (of_moves e) = move_found e ≡ e.printed
Holds (of_width e) = width_found e ≡ e.printed

-- each of a list holds
abbrev pub AllHold : List Example → Type 0
AllHold [] = Unit {0}
AllHold (e ∷ rest) = Holds e × AllHold rest
