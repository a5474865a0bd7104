-- `packed::tables::write_records` meets its contract. Assumes nothing.
use Prim.Native.Nat.{◌-◌}
use Rattle.packed.proofs.Writing.{Writing}
use Rattle.packed.proofs.tables.write_records.Given as goal

abbrev pub invariant-loop-at : goal.invariant-loop-at
invariant-loop-at l = Writing l.pk l.scale l.places l.initial.out l.checksum l.out l.written l.at-index

abbrev pub decreases-loop-at : goal.decreases-loop-at
decreases-loop-at l = 256 - l.at-index
