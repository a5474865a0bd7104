-- What was read is within the buffer; each read brings more of it.
use Rattle.std.proofs.Common.{length, ◌-◌, ◌≤◌}
use Rattle.asking.proofs.files.read_to_end.Given as goal

abbrev pub invariant-loop-done : goal.invariant-loop-done
invariant-loop-done g l = l.done ≤ length l.buffer

abbrev pub decreases-loop-done : goal.decreases-loop-done
decreases-loop-done g l = length l.initial.buffer - l.done
