-- Every starred example of document 01 holds. Assumes nothing.
use mathlib.Core.Path.{◌≡◌}
use mathlib.Core.List.{List, [], ◌∷◌, ◌++◌, map}
use Rattle.units.specs.Starred.{unit_examples, rounding_examples, unit_found, rounding_found, units_hold, roundings_hold}
use Rattle.scaling.specs.Starred.{width_examples, width_found, widths_hold}
use Rattle.state.specs.Starred.{move_examples, move_found, moves_hold}
use Rattle.volume.specs.Starred.{file_examples, file_found, files_hold}
use Rattle.promises.specs.Starred.{Example, of_file, of_unit, of_rounding, of_moves, of_width, Holds, AllHold, starred}

-- one list after another
both : (es others : List Example) → AllHold es → AllHold others → AllHold (es ++ others)
both [] others all rest = rest
both (e ∷ es) others all rest = (all.0, both es others all.1 rest)

-- of one kind of example, from an equation of lists
module _ {E A : Type 0} (of : E → Example) (found printed : E → A) (holds : (e : E) → found e ≡ printed e → Holds (of e)) where
  each : (es : List E) → map found es ≡ map printed es → AllHold (map of es)
  each [] same = tt
  each (e ∷ es) same = (holds e (cc), each es (cc))

-- the last ones, and with those before them
abbrev widths : List Example
widths = map of_width width_examples

abbrev moves : List Example
moves = map of_moves move_examples ++ widths

abbrev roundings : List Example
roundings = map of_rounding rounding_examples ++ moves

abbrev units : List Example
units = map of_unit unit_examples ++ roundings

-- the whole list of examples, as one statement
pub all_hold : AllHold starred
all_hold =
    both (map of_file file_examples) units (each of_file file_found (λ e. e.printed) (λ e h. h) file_examples files_hold)
    (both (map of_unit unit_examples) roundings (each of_unit unit_found (λ e. e.printed) (λ e h. h) unit_examples units_hold)
    (both (map of_rounding rounding_examples) moves (each of_rounding rounding_found (λ e. e.printed) (λ e h. h) rounding_examples roundings_hold)
    (both (map of_moves move_examples) widths (each of_moves move_found (λ e. e.printed) (λ e h. h) move_examples moves_hold)
    (each of_width width_found (λ e. e.printed) (λ e h. h) width_examples widths_hold))))
