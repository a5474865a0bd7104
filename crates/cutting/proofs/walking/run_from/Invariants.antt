-- `cutting::walking::run_from` meets its contract. The loop's invariant: from the place given to the place reached stand commands that change at most the depth.
use Prim.Native.Nat.{◌-◌}
use lib.ListN.{length}
use Rattle.cutting.specs.Steps.{Runs}
use Rattle.cutting.proofs.walking.run_from.Given as goal

abbrev pub invariant-loop-run : goal.invariant-loop-run
invariant-loop-run l = Runs l.file l.fn.from l.run

abbrev pub decreases-loop-run : goal.decreases-loop-run
decreases-loop-run l = length l.file - l.run.at
