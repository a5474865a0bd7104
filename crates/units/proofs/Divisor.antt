-- Laws of the common divisor, up to Euclid's lemma and the uniqueness of lowest terms. Assumes nothing.
use mathlib.Core.Path.{◌≡◌, refl, sym, ap, ap₂, ◌∙◌, subst}
use Prim.Native.Nat.{ℕ, zero, suc, ◌-◌, ◌*◌, ◌/◌, ◌%◌, ◌≤◌, ◌<◌, ◌∣◌}
use native.Mathlib.Nat.{dvd_antisymm, eq_of_mul-eq-mul_left, eq_of_mul-eq-mul_right, div-mul_cancel, dvd-mod_iff, dvd-mul_right, dvd_of_mul-dvd-mul_right, dvd_refl, dvd_trans, dvd-zero, eq-one_of_dvd-one, le_refl, mod_def, mod-lt, mul_assoc, mul_comm, mul-div_cancel, mul-div-mul_right, mul-dvd-mul_right, mul_left_comm, mul-pos, mul-sub, not-suc-le-zero, one-mul, pos_of_dvd_of_pos, zero-lt-suc, zero-mul}
use native.Mathlib.Omega.{arith}
use Rattle.units.specs.Divisor.{divisor_within, common_divisor, lowest}
use Rattle.units.specs.LowestTerms.{Apart, ratio}

-- ---- the rule

-- fuel of b or more is enough
fuel : (f g a b : ℕ) → b ≤ f → b ≤ g → divisor_within f a b ≡ divisor_within g a b
unfolding divisor_within
fuel zero zero a b h k = refl
fuel zero (suc g) a zero h k = refl
fuel zero (suc g) a (suc b) h k = absurd (not-suc-le-zero h)
fuel (suc f) zero a zero h k = refl
fuel (suc f) zero a (suc b) h k = absurd (not-suc-le-zero k)
fuel (suc f) (suc g) a zero h k = refl
fuel (suc f) (suc g) a (suc b) h k = let l = mod-lt a (zero-lt-suc b) in fuel f g (suc b) (a % suc b) (omega arith) (omega arith)

pub gcd_zero : (a : ℕ) → common_divisor a 0 ≡ a
unfolding divisor_within common_divisor
gcd_zero a = refl

pub gcd_step : (a b : ℕ) → 0 < b → common_divisor a b ≡ common_divisor b (a % b)
unfolding divisor_within common_divisor
gcd_step a zero h = absurd (not-suc-le-zero h)
gcd_step a (suc b) h = let l = mod-lt a (zero-lt-suc b) in fuel b (a % suc b) (suc b) (a % suc b) (omega arith) (le_refl _)

-- what holds at b = 0 and goes up the rule holds of every pair
along : (P : ℕ → ℕ → Type 0) → ((a : ℕ) → P a 0) → ((a b : ℕ) → 0 < b → P b (a % b) → P a b) → (f a b : ℕ) → b ≤ f → P a b
along P z s zero a zero h = z a
along P z s zero a (suc b) h = absurd (not-suc-le-zero h)
along P z s (suc f) a zero h = z a
along P z s (suc f) a (suc b) h = let l = mod-lt a (zero-lt-suc b) in s a (suc b) (zero-lt-suc b) (along P z s f (suc b) (a % suc b) (omega arith))

pub gcd_ind : (P : ℕ → ℕ → Type 0) → ((a : ℕ) → P a 0) → ((a b : ℕ) → 0 < b → P b (a % b) → P a b) → (a b : ℕ) → P a b
gcd_ind P z s a b = along P z s b a b (le_refl b)

-- ---- it divides both, and what divides both divides it

pub gcd_divides : (a b : ℕ) → (common_divisor a b ∣ a) × (common_divisor a b ∣ b)
gcd_divides = gcd_ind (λ a b. (common_divisor a b ∣ a) × (common_divisor a b ∣ b))
    (λ a. rw gcd_zero (dvd_refl a, dvd-zero a))
    (λ a b h p. rw (gcd_step a b h) ((dvd-mod_iff _ p.0).0 p.1, p.0))

pub gcd_greatest : (d a b : ℕ) → d ∣ a → d ∣ b → d ∣ common_divisor a b
gcd_greatest d = gcd_ind (λ a b. d ∣ a → d ∣ b → d ∣ common_divisor a b)
    (λ a p q. rw gcd_zero p)
    (λ a b h r p q. rw (gcd_step a b h) (r q ((dvd-mod_iff d q).1 p)))

-- ---- a common factor comes out

mod_scale : (a b c : ℕ) → 0 < c → a * c % (b * c) ≡ a % b * c
mod_scale a b c h =
    mod_def (a * c) (b * c)
    ∙ ap (λ (x : ℕ). a * c - b * c * x) (mul-div-mul_right a b h)
    ∙ sym (mul_comm (a % b) c ∙ ap (λ (x : ℕ). c * x) (mod_def a b) ∙ mul-sub c a (b * (a / b)) ∙ ap₂ ◌-◌ (mul_comm c a) (mul_left_comm c b (a / b) ∙ sym (mul_assoc b c (a / b))))

pub gcd_scale : (c : ℕ) → 0 < c → (a b : ℕ) → common_divisor (a * c) (b * c) ≡ common_divisor a b * c
gcd_scale c h = gcd_ind (λ a b. common_divisor (a * c) (b * c) ≡ common_divisor a b * c)
    (λ a. simp (zero-mul c, gcd_zero))
    (λ a b k r. gcd_step (a * c) (b * c) (mul-pos k h) ∙ ap (common_divisor (b * c)) (mod_scale a b c h) ∙ r ∙ ap (λ (x : ℕ). x * c) (sym (gcd_step a b k)))

-- ---- no common factor

pub apart_gcd : (a b : ℕ) → Apart a b → common_divisor a b ≡ 1
apart_gcd a b p = p (common_divisor a b) (gcd_divides a b).0 (gcd_divides a b).1

pub apart_sym : (a b : ℕ) → Apart a b → Apart b a
apart_sym a b p d x y = p d y x

-- divisors of numbers that are apart are apart
pub apart_down : (a b a' b' : ℕ) → a' ∣ a → b' ∣ b → Apart a b → Apart a' b'
apart_down a b a' b' x y p d u v = p d (dvd_trans d u x) (dvd_trans d v y)

-- Euclid's lemma
pub euclid : (a b c : ℕ) → Apart a b → a ∣ b * c → a ∣ c
euclid a b zero p q = dvd-zero a
euclid a b (suc c) p q =
    subst (λ (x : ℕ). a ∣ x) (gcd_scale (suc c) (zero-lt-suc c) a b ∙ ap (λ (x : ℕ). x * suc c) (apart_gcd a b p) ∙ one-mul (suc c))
    (gcd_greatest a (a * suc c) (b * suc c) (dvd-mul_right a (suc c)) q)

pub apart_mul : (a b c : ℕ) → Apart a c → Apart b c → Apart (a * b) c
apart_mul a b c p q d x y = q d (euclid d a b (λ e u v. p e v (dvd_trans e u y)) x) y

-- ---- lowest terms

-- a fraction whose terms are apart, with both terms times g, has them as its lowest terms
module _ (p q g : ℕ) (h : 0 < g) (a : Apart p q) where
  gcd_is : common_divisor (p * g) (q * g) ≡ g
  gcd_is = gcd_scale g h p q ∙ ap (λ (x : ℕ). x * g) (apart_gcd p q a) ∙ one-mul g

  pub lowest_is : lowest (p * g) (q * g) ≡ ratio p q
  unfolding lowest
  lowest_is = ap (λ (x : ℕ). ratio (p * g / x) (q * g / x)) gcd_is ∙ ap₂ ratio (mul-div_cancel p h) (mul-div_cancel q h)

pub gcd_pos : (a b : ℕ) → 0 < a → 0 < common_divisor a b
gcd_pos a b h = pos_of_dvd_of_pos (gcd_divides a b).0 h

-- the terms divided by their common divisor are apart, and times it they are the terms again
module _ (a b : ℕ) (h : 0 < a) where
  pub back_num : (lowest a b).p * common_divisor a b ≡ a
  unfolding lowest
  back_num = div-mul_cancel (common_divisor a b) (gcd_divides a b).0

  pub back_den : (lowest a b).q * common_divisor a b ≡ b
  unfolding lowest
  back_den = div-mul_cancel (common_divisor a b) (gcd_divides a b).1

  pub lowest_apart : Apart (lowest a b).p (lowest a b).q
  lowest_apart d x y =
      eq-one_of_dvd-one (dvd_of_mul-dvd-mul_right d (gcd_pos a b h)
      (subst (λ (z : ℕ). d * common_divisor a b ∣ z) (sym (one-mul (common_divisor a b)))
      (gcd_greatest (d * common_divisor a b) a b
      (subst (λ (z : ℕ). d * common_divisor a b ∣ z) back_num (mul-dvd-mul_right d x (common_divisor a b)))
      (subst (λ (z : ℕ). d * common_divisor a b ∣ z) back_den (mul-dvd-mul_right d y (common_divisor a b))))))

-- lowest terms are unique: terms that are apart and have the same cross products are the lowest terms
pub unique : (n d p q : ℕ) → 0 < n → 0 < p → Apart p q → n * q ≡ p * d → lowest n d ≡ ratio p q
unique n d p q hn hp a e = ap₂ ratio num (eq_of_mul-eq-mul_left p hp (lowest n d).q q (sym (ap (λ (x : ℕ). x * q) (sym num) ∙ cross)))
  where
    -- the cross products of p / q and the lowest terms
    cross : (lowest n d).p * q ≡ p * (lowest n d).q
    cross =
        eq_of_mul-eq-mul_right (common_divisor n d) (gcd_pos n d hn) ((lowest n d).p * q) (p * (lowest n d).q)
        (mul_assoc (lowest n d).p q (common_divisor n d)
        ∙ ap (λ (x : ℕ). (lowest n d).p * x) (mul_comm q (common_divisor n d))
        ∙ sym (mul_assoc (lowest n d).p (common_divisor n d) q)
        ∙ ap (λ (x : ℕ). x * q) (back_num n d hn)
        ∙ e
        ∙ ap (λ (x : ℕ). p * x) (sym (back_den n d hn))
        ∙ sym (mul_assoc p (lowest n d).q (common_divisor n d)))

    num : (lowest n d).p ≡ p
    num =
        dvd_antisymm
        (euclid (lowest n d).p (lowest n d).q p (lowest_apart n d hn) (subst (λ (x : ℕ). (lowest n d).p ∣ x) (cross ∙ mul_comm p (lowest n d).q) (dvd-mul_right (lowest n d).p q)))
        (euclid p q (lowest n d).p a (subst (λ (x : ℕ). p ∣ x) (sym cross ∙ mul_comm (lowest n d).p q) (dvd-mul_right p (lowest n d).q)))
