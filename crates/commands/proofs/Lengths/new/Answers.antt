-- `Lengths::new` meets its contract: the constant is the table of the specification. Assumes nothing.
use mathlib.Core.Path.{refl}
use Rattle.commands.specs.Lengths.{lengths}
use Rattle.commands.proofs.Lengths.new.Goals as goal

pub invariant_of-result : goal.invariant_of-result
unfolding lengths
invariant_of-result c = record { right = refl }
