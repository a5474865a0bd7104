-- `cutting::counting::count` meets its contract. Assumes nothing.
use Rattle.cutting.proofs.CountLaws.{Counting}
use lib.ListN.{length}
use Prim.Native.Nat.{◌-◌}
use Rattle.cutting.proofs.counting.count.Given as goal

abbrev pub invariant-loop-step : goal.invariant-loop-step
invariant-loop-step l = Counting l.file l.list l.at l.p l.m

abbrev pub decreases-loop-step : goal.decreases-loop-step
decreases-loop-step l = length l.file - l.at
