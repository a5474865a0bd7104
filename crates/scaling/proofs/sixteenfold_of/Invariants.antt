-- `scaling::sixteenfold_of` meets its contract. Assumes nothing.
use Prim.Native.Nat.{ℕ}
use Rattle.scaling.proofs.Halving.{Left}
use Rattle.scaling.proofs.sixteenfold_of.Given as goal

abbrev pub invariant-loop-z : goal.invariant-loop-z
invariant-loop-z l = (times : ℕ) × Left l.scale times l.z l.alpha

abbrev pub decreases-loop-z : goal.decreases-loop-z
decreases-loop-z l = l.z
