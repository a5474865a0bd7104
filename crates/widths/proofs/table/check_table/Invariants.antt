-- `widths::table::check_table` meets its contract. Assumes nothing.
use Prim.Native.Nat.{◌-◌}
use Rattle.widths.specs.Steps.{Judging}
use Rattle.widths.proofs.table.check_table.Given as goal

abbrev pub invariant-loop-at : goal.invariant-loop-at
invariant-loop-at l = Judging l.table l.whole l.at l.least

abbrev pub decreases-loop-at : goal.decreases-loop-at
decreases-loop-at l = l.whole - l.at
