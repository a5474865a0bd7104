-- Functions on a range of numbers: what antt computes as one list over the range holds at each of its numbers. Assumes nothing.
use mathlib.Core.Path.{◌≡◌, refl, ap, ◌∙◌}
use mathlib.Core.Bool.{Bool, true, false, ◌&&◌}
use mathlib.Core.List.{List, [], ◌∷◌}
use Prim.Native.Nat.{ℕ, zero, suc, ◌+◌, ◌<◌, ◌≤◌}
use native.Mathlib.Omega.{arith}
use lib.Dec.{leb, eqb}
use lib.ListN.{replicate}
use borrow.Author.Tests.{leb-true, eqb-true, eqb-false}

module _ {A : Type 0} where
  -- the values of f at count numbers from low on
  abbrev pub values : (ℕ → A) → ℕ → ℕ → List A
  values f low zero = []
  values f low (suc count) = f low ∷ values f (suc low) count

  -- f is constant on the range
  pub constant_on : (f : ℕ → A) (value : A) (low count : ℕ) → values f low count ≡ replicate count value
      → {x : ℕ} → low ≤ x → x < low + count → f x ≡ value
  constant_on f value low zero e h l = absurd (omega arith)
  constant_on f value low (suc count) e {x} h l = go (eqb x low) refl (λ y. constant_on f value (suc low) count (cc) {x = y})
    where
      go : (t : Bool) → eqb x low ≡ t → ((y : ℕ) → suc low ≤ y → y < suc low + count → f y ≡ value) → f x ≡ value
      go true t above = let here : f low ≡ value = cc in ap f (eqb-true x low t) ∙ here
      go false t above = above x (let other : ¬ (x ≡ low) = eqb-false x low t in omega arith) (omega arith)

-- f and g agree on the range
pub equal_on : (f g : ℕ → ℕ) (low count : ℕ) → values (λ x. eqb (f x) (g x)) low count ≡ replicate count true
    → {x : ℕ} → low ≤ x → x < low + count → f x ≡ g x
equal_on f g low count e {x} h l = eqb-true (f x) (g x) (constant_on (λ y. eqb (f y) (g y)) true low count e h l)

-- f lies between low and high on the range
both_true : (a b : Bool) → (a && b) ≡ true → (a ≡ true) × (b ≡ true)
both_true true b e = (refl, e)
both_true false b e = let z : ◌≡◌ {A = ℕ} 0 1 = cc in absurd (omega arith)

pub between_on : (f low high : ℕ → ℕ) (start count : ℕ) → values (λ x. leb (low x) (f x) && leb (f x) (high x)) start count ≡ replicate count true
    → {x : ℕ} → start ≤ x → x < start + count → (low x ≤ f x) × (f x ≤ high x)
between_on f low high start count e {x} h l =
    let (a, b) = both_true (leb (low x) (f x)) (leb (f x) (high x)) (constant_on (λ y. leb (low y) (f y) && leb (f y) (high y)) true start count e h l) in
    (leb-true (low x) (f x) a, leb-true (f x) (high x) b)
