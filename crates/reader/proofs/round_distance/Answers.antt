-- What `round` requires in `reader::round_distance`: K was given, and a 32-bit distance is small. Assumes nothing.
use Rattle.std.proofs.Common.{ℕ, ℤ, nat_abs, w32, to_z, of_z, sym, ap, ◌∙◌, rules}
use Rattle.refusals.specs.Answer.{answered}
use Rattle.units.specs.Steps.{Units}
use Rattle.units.proofs.Unit.{accepted}
use Rattle.reader.proofs.round_distance.Goals as goal

-- a 32-bit number as the code reads it
abbrev read : ℤ → ℕ
read z = nat_abs (to_z w32 (of_z w32 z))

pub round-requires : goal.round-requires
round-requires c =
    let a = c.args in
    let units : Units (read a.num) (read a.den) (read a.mag) = search rules in
    ((accepted _ _ _ c.from.result _ units (sym c.unit_of.ensures ∙ ap answered c.in_ok-k.was)).1, search rules)
