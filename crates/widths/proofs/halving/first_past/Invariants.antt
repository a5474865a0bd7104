-- `widths::halving::first_past` meets its contract. Assumes nothing.
use Prim.Native.Nat.{ℕ, ◌-◌, ◌≤◌, ◌<◌}
use mathlib.Core.Bool.{Bool, true, false}
use mathlib.Core.Path.{◌≡◌}
use Rattle.widths.proofs.halving.first_past.Given as goal

abbrev pub invariant-loop-low : goal.invariant-loop-low
invariant-loop-low g l =
    (l.from ≤ l.low) × (l.low ≤ l.high) × (l.high ≤ l.to)
    × ((p : ℕ → Bool) → ((i : ℕ) (r : Bool) → l.from ≤ i → i < l.to → goal.F-post g l.before i r → r ≡ p i)
    → ((i j : ℕ) → l.from ≤ i → i < j → j < l.to → p j ≡ true → p i ≡ true)
    → ((i : ℕ) → l.from ≤ i → i < l.low → p i ≡ true) × ((i : ℕ) → l.high ≤ i → i < l.to → p i ≡ false))

abbrev pub decreases-loop-low : goal.decreases-loop-low
decreases-loop-low g l = l.high - l.low
