-- Numbers in two digits of any base: the first digit decides, and where it is the same the second. Assumes nothing.
use mathlib.Core.Path.{◌≡◌, refl, sym, ap, ◌∙◌}
use mathlib.Core.Logic.{◌⊎◌, inl, inr, ⊎_elim}
use mathlib.Core.Bool.{Bool, true, false, ◌&&◌}
use Prim.Native.Nat.{ℕ, suc, ◌+◌, ◌*◌, ◌≤◌, ◌<◌}
use native.Mathlib.Nat.{add-mul, mul_assoc, add_assoc, mul-le-mul_right}
use native.Mathlib.Numerals.{lt_of_le_of_ne}
use native.Mathlib.Omega.{arith}
use lib.Dec.{ltb, eqb}
use borrow.Author.Tests.{ltb-true, ltb-false, eqb-true, eqb-false, lt-ltb, le-ltb, eq-eqb, ne_eqb}

-- ---- tests

less_or_not_by : (a b : ℕ) (outcome : Bool) → ltb a b ≡ outcome → (a < b) ⊎ (b ≤ a)
less_or_not_by a b true e = inl (ltb-true a b e)
less_or_not_by a b false e = inr (ltb-false a b e)

-- a number is below another, or it is not
pub less_or_not : (a b : ℕ) → (a < b) ⊎ (b ≤ a)
less_or_not a b = less_or_not_by a b (ltb a b) refl

-- two tests with one outcome

module _ (a b c d : ℕ) where
  less_by : (outcome : Bool) → ltb a b ≡ outcome → (a < b → c < d) → (b ≤ a → d ≤ c) → outcome ≡ ltb c d
  less_by true e below above = sym (lt-ltb c d (below (ltb-true a b e)))
  less_by false e below above = sym (le-ltb c d (above (ltb-false a b e)))

  pub same_less : (a < b → c < d) → (b ≤ a → d ≤ c) → ltb a b ≡ ltb c d
  same_less below above = less_by (ltb a b) refl below above

  equal_by : (outcome : Bool) → eqb a b ≡ outcome → (a ≡ b → c ≡ d) → (c ≡ d → a ≡ b) → outcome ≡ eqb c d
  equal_by true e forth back = sym (eq-eqb c d (forth (eqb-true a b e)))
  equal_by false e forth back = sym (ne_eqb c d (λ f. eqb-false a b e (back f)))

  pub same_equal : (a ≡ b → c ≡ d) → (c ≡ d → a ≡ b) → eqb a b ≡ eqb c d
  same_equal forth back = equal_by (eqb a b) refl forth back

-- ---- two digits

-- two digits of a base are one of its square
pub joined_twice : (x y z base : ℕ) → (x * base + y) * base + z ≡ x * (base * base) + (y * base + z)
joined_twice x y z base =
    ap (λ (n : ℕ). n + z) (add-mul (x * base) y base) ∙ add_assoc (x * base * base) (y * base) z ∙ ap (λ (n : ℕ). n + (y * base + z)) (mul_assoc x base base)

module _ (x y base low_x low-y : ℕ) (x_in : low_x < base) where
  -- a smaller first digit, whatever a second one up to the base is
  pub first_below : x < y → x * base + low_x < y * base + low-y
  first_below h = let more : suc x * base ≤ y * base = mul-le-mul_right base h in omega arith

  pub first_above : y < x → low-y ≤ base → y * base + low-y ≤ x * base + low_x
  first_above h y_in = let more : suc y * base ≤ x * base = mul-le-mul_right base h in omega arith

  module _ (y_in : low-y ≤ base) where
    pub first_decides : (x ≡ y → ⊥) → ltb x y ≡ ltb (x * base + low_x) (y * base + low-y)
    first_decides differ =
        same_less x y (x * base + low_x) (y * base + low-y) first_below
        (λ h. first_above (lt_of_le_of_ne h (λ e. differ (sym e))) y_in)

  pub second_decides : x ≡ y → ltb low_x low-y ≡ ltb (x * base + low_x) (y * base + low-y)
  second_decides e =
      let same : x * base ≡ y * base = ap (λ (n : ℕ). n * base) e in
      same_less low_x low-y (x * base + low_x) (y * base + low-y) (λ h. omega arith) (λ h. omega arith)

  -- equal numbers have equal digits
  module _ (y_in : low-y < base) (e : x * base + low_x ≡ y * base + low-y) where
    pub first_same : x ≡ y
    first_same =
        ⊎_elim (λ (under : x < y). absurd (omega (arith, first_below under)))
        (λ (over : y ≤ x). ⊎_elim (λ (past : y < x). absurd (let more : suc y * base ≤ x * base = mul-le-mul_right base past in omega arith)) (λ (less : x ≤ y). omega arith) (less_or_not y x))
        (less_or_not x y)

    pub second_same : low_x ≡ low-y
    second_same = let same : x * base ≡ y * base = ap (λ (n : ℕ). n * base) first_same in omega arith

  pub digits_equal : low-y < base → (eqb x y && eqb low_x low-y) ≡ eqb (x * base + low_x) (y * base + low-y)
  digits_equal y_in = by (eqb x y) refl
    where
      by : (first : Bool) → eqb x y ≡ first → (first && eqb low_x low-y) ≡ eqb (x * base + low_x) (y * base + low-y)
      by true e =
          let same : x * base ≡ y * base = ap (λ (n : ℕ). n * base) (eqb-true x y e) in
          same_equal low_x low-y (x * base + low_x) (y * base + low-y) (λ h. omega arith) (λ h. omega arith)
      by false e = sym (ne_eqb (x * base + low_x) (y * base + low-y) (λ h. eqb-false x y e (first_same y_in h)))
