-- `volume::plain::pass_depths` meets its contract. The loop's invariant: the scan may go on from what was reached. Assumes nothing.
use mathlib.Core.List.{List}
use Prim.Native.Nat.{ℕ, ◌≤◌, max}
use lib.ListN.{length}
use Rattle.list.specs.Steps.{changed}
use Rattle.volume.specs.Steps.{Onward}
use Rattle.volume.proofs.plain.pass_depths.Given as goal

abbrev pub invariant-loop-at : goal.invariant-loop-at
invariant-loop-at l = ((fonts : List ℕ) → Onward l.file fonts l.v (changed l.v l.v.stage l.at l.depth l.greatest)) × (l.at ≤ max l.v.at (length l.file))
