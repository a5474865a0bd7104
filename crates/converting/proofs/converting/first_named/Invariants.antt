-- `converting::converting::first_named` meets its contract. Assumes nothing.
use Prim.Native.Nat.{◌-◌}
use mathlib.Core.Path.{◌≡◌}
use Rattle.converting.specs.Converting.{unnamed_from}
use Rattle.converting.proofs.converting.first_named.Given as goal

abbrev pub invariant-loop-index : goal.invariant-loop-index
invariant-loop-index l = let w = l.widths in unnamed_from (w.records - l.index) w.bytes.now l.index ≡ unnamed_from w.records w.bytes.now 0
