-- `units::round` meets its contract: magnitude, the nearest whole, the sign put back. Assumes nothing.
use native.Mathlib.Omega.{arith}
use Rattle.units.proofs.Rounding.{nearest_half}
use Rattle.units.proofs.round.Goals as goal

pub with_sign-requires : goal.with_sign-requires
with_sign-requires c = omega (arith, nearest_half c.requires.0 c.unsigned_abs.result, c.unsigned_abs.ensures.value, c.requires.1, c.nearest_whole.ensures)
