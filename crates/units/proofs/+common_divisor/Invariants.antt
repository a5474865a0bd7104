-- What `units::common_divisor` counts down: b. Assumes nothing.
use Rattle.units.proofs.+common_divisor.Given as goal

abbrev pub decreases-common_divisor : goal.decreases-common_divisor
decreases-common_divisor l = l.b
