-- `cutting::choosing::right_list` meets its contract. Assumes nothing.
use Rattle.cutting.proofs.Rising.{Judging}
use lib.ListN.{length}
use Prim.Native.Nat.{◌-◌}
use Rattle.cutting.proofs.choosing.right_list.Given as goal

abbrev pub invariant-loop-page : goal.invariant-loop-page
invariant-loop-page l = Judging l.last l.list l.before l.page-index

abbrev pub decreases-loop-page : goal.decreases-loop-page
decreases-loop-page l = length l.list - l.page-index
