-- `widths::halving::first_past` meets its contract. Assumes nothing.
use Prim.Native.Nat.{ℕ, ◌+◌, ◌-◌, ◌/◌, ◌≤◌, ◌<◌}
use mathlib.Core.Bool.{Bool, true, false}
use mathlib.Core.Logic.{⊎_elim}
use mathlib.Core.Path.{◌≡◌, refl, sym, subst, ◌∙◌}
use native.Mathlib.Nat.{eq-or-lt_of_le}
use native.Mathlib.Omega.{arith}
use Rattle.widths.proofs.halving.first_past.Goals as goal

-- a test that holds at a place holds before it, and one that fails there fails behind it
module _ (p : ℕ → Bool) (from to middle : ℕ) (rises : (i j : ℕ) → from ≤ i → i < j → j < to → p j ≡ true → p i ≡ true) (after : from ≤ middle) (inside : middle < to) where
  up : p middle ≡ true → (i : ℕ) → from ≤ i → i < middle + 1 → p i ≡ true
  up e i low high =
      let near : i ≤ middle = omega arith in
      ⊎_elim (λ (same : i ≡ middle). subst (λ (n : ℕ). p n ≡ true) (sym same) e) (λ (under : i < middle). rises i middle low under inside e) (eq-or-lt_of_le near)

  by : (i : ℕ) (t : Bool) → p i ≡ t → p middle ≡ false → middle < i → i < to → t ≡ false
  by i true e fails over high = sym (rises middle i after over high e) ∙ fails
  by i false e fails over high = refl

  down : p middle ≡ false → (i : ℕ) → middle ≤ i → i < to → p i ≡ false
  down e i low high =
      ⊎_elim (λ (same : middle ≡ i). subst (λ (n : ℕ). p n ≡ false) same e) (λ (over : middle < i). by i (p i) refl e over high) (eq-or-lt_of_le low)

pub loop-low-preserved-then-before : goal.loop-low-preserved-then-before
loop-low-preserved-then-before g c =
    let l = c.loop-low in
    let m = l.low + (l.high - l.low) / 2 in
    let after : c.args.from ≤ m = omega (arith, l.invariant.0) in
    let inside : m < c.args.to = omega (arith, l.invariant.2) in (
      omega (arith, l.invariant.0),
      omega arith,
      l.invariant.2,
      λ p values rises. (
        up p c.args.from c.args.to m rises after inside (sym (values m c.before-in-loop-low.result after inside c.before-in-loop-low.ensures) ∙ c.if-before.true),
        (l.invariant.3 p values rises).1,
      ),
    )

pub loop-low-preserved : goal.loop-low-preserved
loop-low-preserved g c =
    let l = c.loop-low in
    let m = l.low + (l.high - l.low) / 2 in
    let after : c.args.from ≤ m = omega (arith, l.invariant.0) in
    let inside : m < c.args.to = omega (arith, l.invariant.2) in (
      l.invariant.0,
      omega arith,
      omega (arith, l.invariant.2),
      λ p values rises. (
        (l.invariant.3 p values rises).0,
        down p c.args.from c.args.to m rises after inside (sym (values m c.before-in-loop-low.result after inside c.before-in-loop-low.ensures) ∙ c.if-before.false),
      ),
    )

pub returns-clause-parts : goal.returns-clause-parts
returns-clause-parts g c = λ p values rises.
    let l = c.loop-low in
    let both = l.invariant.3 p values rises in
    let last : l.low ≡ l.high = omega (arith, c.loop-low-test.false, l.invariant.1) in
    (both.0, λ i low high. both.1 i (omega arith) high)
