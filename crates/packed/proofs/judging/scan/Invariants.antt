-- `packed::judging::scan` meets its contract. Assumes nothing.
use Prim.Native.Nat.{◌-◌}
use lib.ListN.{length}
use Rattle.packed.proofs.Going.{Going}
use Rattle.packed.proofs.judging.scan.Given as goal

abbrev pub invariant-loop-at : goal.invariant-loop-at
invariant-loop-at l = Going l.pk l.at l.ended l.note

abbrev pub decreases-loop-at : goal.decreases-loop-at
decreases-loop-at l = length l.pk - l.at
