-- `widths::table::pass_block` meets its contract: a record of the same check sum, scale and name is right where its code reaches and its rest is right. Assumes nothing.
use Prim.Native.Nat.{◌-◌, ◌≤◌}
use Rattle.widths.specs.Steps.{Judging, with_code}
use Rattle.widths.proofs.table.pass_block.Given as goal

abbrev pub invariant-loop-at : goal.invariant-loop-at
invariant-loop-at l = (l.from ≤ l.at) × Judging l.table l.whole l.at (with_code l.least l.code)

abbrev pub decreases-loop-at : goal.decreases-loop-at
decreases-loop-at l = l.whole - l.at
