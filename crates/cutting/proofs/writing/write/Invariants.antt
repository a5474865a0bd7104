-- `cutting::writing::write` meets its contract. Assumes nothing.
use Rattle.cutting.proofs.WriteTurns.{Writing}
use lib.ListN.{length}
use Prim.Native.Nat.{◌-◌}
use Rattle.cutting.proofs.writing.write.Given as goal

abbrev pub invariant-loop-step : goal.invariant-loop-step
invariant-loop-step l = Writing l.file l.list l.initial.out l.at l.p l.m l.out

abbrev pub decreases-loop-step : goal.decreases-loop-step
decreases-loop-step l = length l.file - l.at
