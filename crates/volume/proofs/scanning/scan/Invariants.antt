-- `volume::scanning::scan` meets its contract: at each turn what the code holds stands for the commands so far. Assumes nothing.
use Prim.Native.Nat.{◌-◌}
use lib.ListN.{length}
use Rattle.volume.specs.Steps.{Going}
use Rattle.volume.proofs.scanning.scan.Given as goal

abbrev pub invariant-loop-reading : goal.invariant-loop-reading
invariant-loop-reading l = Going l.file l.page l.v l.fonts l.again

abbrev pub decreases-loop-reading : goal.decreases-loop-reading
decreases-loop-reading l = length l.file - l.v.at
