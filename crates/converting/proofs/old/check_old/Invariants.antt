-- `converting::old::check_old` meets its contract. Assumes nothing.
use Prim.Native.Nat.{◌-◌, ◌≤◌}
use Rattle.widths.specs.Steps.{Checking}
use Rattle.converting.specs.Steps.{old_key_number, OldLeastKey}
use Rattle.converting.proofs.old.check_old.Given as goal

abbrev pub invariant-loop-at : goal.invariant-loop-at
invariant-loop-at l = (l.at ≤ l.whole) × OldLeastKey l.least × Checking 0 l.table l.at (old_key_number l.least)

abbrev pub decreases-loop-at : goal.decreases-loop-at
decreases-loop-at l = l.whole - l.at
