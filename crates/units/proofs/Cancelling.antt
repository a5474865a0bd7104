-- Three factors above the line and two below it, cancelled pair by pair, give the lowest terms of the two products. Assumes nothing.
use mathlib.Core.Path.{◌≡◌, sym, ap, ap₂, ◌∙◌, subst}
use Prim.Native.Nat.{ℕ, ◌*◌, ◌≤◌, ◌<◌, ◌∣◌}
use native.Mathlib.Nat.{mul_assoc, mul_comm, mul-one, mul-pos, dvd-mul_right, dvd_trans, dvd_refl, le-mul_of_pos_right, mul-le-mul, pos_of_dvd_of_pos}
use lib.Dec.{lit<}
use Rattle.units.specs.declared.Ratio.{Ratio}
use Rattle.units.specs.Divisor.{common_divisor, lowest}
use Rattle.units.specs.LowestTerms.{Apart, ratio}
use Rattle.units.proofs.Divisor.{apart_sym, apart_down, apart_mul, lowest_is, lowest_apart, back_num, back_den, gcd_pos}

-- a / b with the common divisor g taken out is a' / b'
pub record Cut (a b a' b' : ℕ) : Type 0 where
  pub g : ℕ
  pub some : 0 < g
  pub num : a ≡ a' * g
  pub den : b ≡ b' * g
  pub apart : Apart a' b'

pub cut : (a b : ℕ) → 0 < a → Cut a b (lowest a b).p (lowest a b).q
cut a b h = record { g = common_divisor a b; some = gcd_pos a b h; num = sym (back_num a b h); den = sym (back_den a b h); apart = lowest_apart a b h }

-- of a fraction that was brought to lowest terms
pub cut_of : (a b : ℕ) (r : Ratio) → 0 < a → r ≡ lowest a b → Cut a b r.p r.q
cut_of a b r h e = subst (λ (t : Ratio). Cut a b t.p t.q) (sym e) (cut a b h)

module _ {a b a' b' : ℕ} (c : Cut a b a' b') where
  num_divides : a' ∣ a
  num_divides = subst (λ (x : ℕ). a' ∣ x) (sym c.num) (dvd-mul_right a' c.g)

  den_divides : b' ∣ b
  den_divides = subst (λ (x : ℕ). b' ∣ x) (sym c.den) (dvd-mul_right b' c.g)

  pub num_small : a' ≤ a
  num_small = subst (λ (x : ℕ). a' ≤ x) (sym c.num) (le-mul_of_pos_right a' c.some)

  pub den_small : b' ≤ b
  den_small = subst (λ (x : ℕ). b' ≤ x) (sym c.den) (le-mul_of_pos_right b' c.some)

  pub num_some : 0 < a → 0 < a'
  num_some h = pos_of_dvd_of_pos num_divides h

-- n / d is p / q with both terms times g
record Over (n d p q : ℕ) : Type 0 where
  g : ℕ
  some : 0 < g
  num : n ≡ p * g
  den : d ≡ q * g

-- the first factor above is cancelled against the last below, and goes last
turn : (b c k : ℕ) {n d x y x' y' : ℕ} → Over n d (x * b * c) (k * y) → Cut x y x' y' → Over n d (b * c * x') (k * y')
turn b c k {n} {d} {x} {y} {x'} {y'} o t =
    record {
      g = t.g * o.g;
      some = mul-pos t.some o.some;
      num =
          o.num
          ∙ ap (λ (z : ℕ). z * o.g) (mul_assoc x b c ∙ mul_comm x (b * c) ∙ ap (λ (z : ℕ). b * c * z) t.num ∙ sym (mul_assoc (b * c) x' t.g))
          ∙ mul_assoc (b * c * x') t.g o.g;
      den = o.den ∙ ap (λ (z : ℕ). z * o.g) (ap (λ (z : ℕ). k * z) t.den ∙ sym (mul_assoc k y' t.g)) ∙ mul_assoc (k * y') t.g o.g;
    }

-- x1, x2, x3 are cancelled against y1 one after the other, and what is left of them against y2
module _ {x1 x2 x3 y1 y2 u1 v1 u2 v2 u3 v3 p1 w1 p2 w2 p3 w3 : ℕ}
    (c1 : Cut x1 y1 u1 v1) (c2 : Cut x2 v1 u2 v2) (c3 : Cut x3 v2 u3 v3)
    (c4 : Cut u1 y2 p1 w1) (c5 : Cut u2 w1 p2 w2) (c6 : Cut u3 w2 p3 w3) where
  over : Over (x1 * x2 * x3) (y1 * y2) (p1 * p2 * p3) (v3 * w3)
  over =
      let o : Over (x1 * x2 * x3) (y1 * y2) (x1 * x2 * x3) (y2 * y1) = record { g = 1; some = lit< tt; num = sym (mul-one _); den = mul_comm y1 y2 ∙ sym (mul-one _) } in
      let h = turn u1 u2 y2 (turn x3 u1 y2 (turn x2 x3 y2 o c1) c2) c3 in
      let o' : Over (x1 * x2 * x3) (y1 * y2) (u1 * u2 * u3) (v3 * y2) = record { g = h.g; some = h.some; num = h.num; den = h.den ∙ ap (λ (z : ℕ). z * h.g) (mul_comm y2 v3) } in
      turn p1 p2 v3 (turn u3 p1 v3 (turn u2 u3 v3 o' c4) c5) c6

  apart : Apart (p1 * p2 * p3) (v3 * w3)
  apart =
      let v32 = den_divides c3 in
      let v31 = dvd_trans v3 v32 (den_divides c2) in
      let w32 = den_divides c6 in
      let w31 = dvd_trans w3 w32 (den_divides c5) in
      let one = both p1 (apart_down u1 v1 p1 v3 (num_divides c4) v31 c1.apart) (apart_down p1 w1 p1 w3 (dvd_refl p1) w31 c4.apart) in
      let two = both p2 (apart_down u2 v2 p2 v3 (num_divides c5) v32 c2.apart) (apart_down p2 w2 p2 w3 (dvd_refl p2) w32 c5.apart) in
      let three = both p3 (apart_down u3 v3 p3 v3 (num_divides c6) (dvd_refl v3) c3.apart) c6.apart in
      apart_mul (p1 * p2) p3 (v3 * w3) (apart_mul p1 p2 (v3 * w3) one two) three
    where
      both : (p : ℕ) → Apart p v3 → Apart p w3 → Apart p (v3 * w3)
      both p a b = apart_sym (v3 * w3) p (apart_mul v3 w3 p (apart_sym p v3 a) (apart_sym p w3 b))

  pub six : lowest (x1 * x2 * x3) (y1 * y2) ≡ ratio (p1 * p2 * p3) (v3 * w3)
  six = let o = over in ap₂ lowest o.num o.den ∙ lowest_is (p1 * p2 * p3) (v3 * w3) o.g o.some apart

-- a product's bound, with each number written out so that `omega` knows what it proves
pub within : (a b m n : ℕ) → a ≤ m → b ≤ n → a * b ≤ m * n
within a b m n h k = mul-le-mul h k
