-- Names byte by byte, and the name that a font seeks. Assumes nothing.
use Prim.Native.Nat.{ℕ, zero, suc, ◌+◌, ◌-◌, ◌≤◌, ◌<◌}
use mathlib.Core.Path.{◌≡◌, sym, ap, ap₂, ◌∙◌}
use mathlib.Core.Bool.{Bool, true, false, cond, not, ◌&&◌}
use mathlib.Core.List.{List, ◌++◌, append_assoc}
use native.Mathlib.Omega.{arith}
use lib.ListN.{length, take, drop, replicate, length-append, length-replicate, replicate-append-replicate}
use borrow.Author.Tests.{le-leb, lt-leb}
use Rattle.numbers.specs.Bytes.{unsigned_at}
use Rattle.numbers.proofs.Bytes.{unsigned_join, unsigned_front}
use Rattle.names.specs.Names.{has_zero, name_at, name_number, any_name, sought_name}

-- ---- a name as one number

pub number_at : (bytes : List ℕ) (at : ℕ) → name_number (name_at bytes at) ≡ unsigned_at bytes at 16
number_at bytes at = sym (unsigned_join bytes at 8 8)

-- ---- the name that is sought

drop_zeros : (count n : ℕ) → drop n (replicate {A = ℕ} count 0) ≡ replicate (count - n) 0
drop_zeros count zero = let e : count ≡ count - 0 = omega arith in ap (λ (k : ℕ). replicate k 0) e
drop_zeros zero (suc n) = let e : 0 ≡ 0 - suc n = omega arith in ap (λ (k : ℕ). replicate k 0) e
drop_zeros (suc count) (suc n) = let e : count - n ≡ suc count - suc n = omega arith in drop_zeros count n ∙ ap (λ (k : ℕ). replicate k 0) e

pub too_long : (name : List ℕ) → 16 < length name → any_name ≡ sought_name name
unfolding sought_name
too_long name h = ap (λ (t : Bool). cond (t && not (has_zero name)) (name_at (name ++ replicate 16 0) 0) any_name) (sym (lt-leb (length name) 16 h))

module _ (name : List ℕ) (short : length name ≤ 16) where
  pub with_zero : has_zero name ≡ true → any_name ≡ sought_name name
  unfolding sought_name
  with_zero e = ap₂ (λ (t u : Bool). cond (t && not u) (name_at (name ++ replicate 16 0) 0) any_name) (sym (le-leb (length name) 16 short)) (sym e)

  -- zeros up to sixteen bytes are enough
  filled : name ++ replicate 16 0 ≡ (name ++ replicate (16 - length name) 0) ++ replicate (length name) 0
  filled =
      let count : 16 - length name + length name ≡ 16 = omega arith in
      ap (λ (n : ℕ). name ++ replicate n 0) (sym count)
      ∙ ap (λ (l : List ℕ). name ++ l) (sym (replicate-append-replicate (16 - length name) (length name) 0))
      ∙ sym (append_assoc name (replicate (16 - length name) 0) (replicate (length name) 0))

  -- the name with zeros up to sixteen bytes
  abbrev pub padded : List ℕ
  padded = name ++ replicate (16 - length name) 0

  pub padded_length : length padded ≡ 16
  padded_length = length-append name (replicate (16 - length name) 0) ∙ ap (λ (n : ℕ). length name + n) (length-replicate (16 - length name) 0) ∙ omega arith

  pub without_zero : has_zero name ≡ false → name_at padded 0 ≡ sought_name name
  unfolding sought_name
  without_zero e =
      ap₂ (λ (high low : ℕ). record { high = high; low = low })
      (sym (ap (λ (l : List ℕ). unsigned_at l 0 8) filled ∙ unsigned_front padded (replicate (length name) 0) 0 8 (omega (arith, padded_length))))
      (sym (ap (λ (l : List ℕ). unsigned_at l 8 8) filled ∙ unsigned_front padded (replicate (length name) 0) 8 8 (omega (arith, padded_length))))
      ∙ ap₂ (λ (t u : Bool). cond (t && not u) (name_at (name ++ replicate 16 0) 0) any_name) (sym (le-leb (length name) 16 short)) (sym e)

  -- the zeros that a name is put into stay behind it
  pub filling : take 0 (replicate {A = ℕ} 16 0) ++ name ++ drop (0 + length name) (replicate {A = ℕ} 16 0) ≡ padded
  filling =
      let e : 16 - (0 + length name) ≡ 16 - length name = omega arith in
      ap (λ (l : List ℕ). name ++ l) (drop_zeros 16 (0 + length name) ∙ ap (λ (n : ℕ). replicate n 0) e)
