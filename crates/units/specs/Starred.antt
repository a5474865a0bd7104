-- The starred examples on units and rounding, as entries of lists: what document 01 asks to be proved. Assumes nothing.
use Rattle.std.specs.Prelude.{ℕ, ◌≡◌, refl, List, [], ◌∷◌, map, ℤ, pos, negsuc}
use Rattle.refusals.specs.Numbers.{unit_out_of_range}
use Rattle.refusals.specs.Answer.{Answer, refused, given}
use Rattle.units.specs.declared.Ratio.{Ratio}
use Rattle.units.specs.Divisor.{divisor_within, common_divisor, lowest}
use Rattle.units.specs.Unit.{unit_of}
use Rattle.units.specs.Rounding.{nearest_whole, rounded}

-- num, den, mag and R, and what K must be, or the refusal
pub record UnitExample : Type 0 where
  pub num : ℕ
  pub den : ℕ
  pub mag : ℕ
  pub resolution : ℕ
  pub printed : Answer Ratio

-- K and a distance, and the rounded distance that it must give
pub record RoundingExample : Type 0 where
  pub ratio : Ratio
  pub distance : ℤ
  pub printed : ℤ

-- K = 1/2
abbrev pub half : Ratio
half = record { p = 1; q = 2 }

-- the units of the smallest file at 500, where K is just a half, and at 501, where it is above; TeX's own units at 300
abbrev pub unit_examples : List UnitExample
unit_examples =
    record { num = 254; den = 1; mag = 1000; resolution = 500; printed = given half }
    ∷ record { num = 254; den = 1; mag = 1000; resolution = 501; printed = refused unit_out_of_range 0 }
    ∷ record { num = 25400000; den = 473628672; mag = 1000; resolution = 300; printed = given (record { p = 625; q = 9867264 }) }
    ∷ []

-- halves of either sign at K = 1/2
abbrev pub rounding_examples : List RoundingExample
rounding_examples =
    record { ratio = half; distance = pos 1; printed = pos 1 }
    ∷ record { ratio = half; distance = negsuc 0; printed = negsuc 0 }
    ∷ record { ratio = half; distance = pos 3; printed = pos 2 }
    ∷ record { ratio = half; distance = negsuc 2; printed = negsuc 1 }
    ∷ []

-- what the definitions give for an example
abbrev pub unit_found : UnitExample → Answer Ratio
unit_found e = unit_of e.num e.den e.mag e.resolution

-- and of a rounding
abbrev pub rounding_found : RoundingExample → ℤ
rounding_found e = rounded e.ratio e.distance

-- the definitions give what they must
pub units_hold : map unit_found unit_examples ≡ map (λ e. e.printed) unit_examples
unfolding divisor_within common_divisor lowest
units_hold = refl

-- of rounding too
pub roundings_hold : map rounding_found rounding_examples ≡ map (λ e. e.printed) rounding_examples
unfolding nearest_whole
roundings_hold = refl
