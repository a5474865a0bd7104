-- The judgement of the bytes after post_post: one byte at a time at a place of the file, and over the written form of the 223s. Assumes nothing.
use Prim.Native.Nat.{ℕ, zero, suc, ◌+◌, ◌<◌, ◌≤◌}
use mathlib.Core.Path.{◌≡◌, refl, ap, ap₂, ◌∙◌}
use mathlib.Core.Bool.{Bool, true, false}
use mathlib.Core.List.{List, [], ◌∷◌, ◌++◌, append-nil}
use native.Mathlib.Numerals.{add-one}
use native.Mathlib.Omega.{arith}
use lib.Dec.{ltb, eqb}
use lib.ListN.{length, get_or, drop, drop_of_length-le}
use lib.Seq.{drop-cons}
use borrow.Author.Tests.{eq-eqb, ne_eqb, lt-ltb, le-ltb, eqb-true, eqb-false}
use Rattle.refusals.specs.Numbers.{wrong_tail}
use Rattle.refusals.specs.Answer.{refused, given, refuse_if}
use Rattle.commands.specs.Commands.{written}
use Rattle.volume.specs.declared.Summary.{Summary}
use Rattle.list.specs.Lawful.{fillers}
use Rattle.volume.specs.Judged.{tail}

-- ---- the definition's lines

module _ (found : Summary) (at passed : ℕ) where
  tail_nil : tail found at passed [] ≡ refuse_if (ltb passed 4) wrong_tail at (given found)
  unfolding tail
  tail_nil = refl

  tail_filler : (byte : ℕ) (bytes : List ℕ) → byte ≡ 223 → tail found at passed (byte ∷ bytes) ≡ tail found (suc at) (suc passed) bytes
  unfolding tail
  tail_filler byte bytes e = rw (eq-eqb byte 223 e, tail)

  tail_other : (byte : ℕ) (bytes : List ℕ) → (byte ≡ 223 → ⊥) → tail found at passed (byte ∷ bytes) ≡ refused wrong_tail at
  unfolding tail
  tail_other byte bytes e = rw (ne_eqb byte 223 e, tail)

  tail_few : passed < 4 → tail found at passed [] ≡ refused wrong_tail at
  tail_few h = rw (tail_nil, lt-ltb passed 4 h)

  tail_enough : 4 ≤ passed → tail found at passed [] ≡ given found
  tail_enough h = rw (tail_nil, le-ltb passed 4 h)

-- ---- at a place of the file

module _ (found : Summary) (file : List ℕ) (at passed : ℕ) where
  pub tail_step : at < length file → get_or file at 0 ≡ 223 → tail found at passed (drop at file) ≡ tail found (at + 1) (passed + 1) (drop (at + 1) file)
  tail_step h e = rw (add-one at, add-one passed, drop-cons file at 0 h) (tail_filler found at passed (get_or file at 0) _ e)

  pub tail_wrong : at < length file → (get_or file at 0 ≡ 223 → ⊥) → tail found at passed (drop at file) ≡ refused wrong_tail at
  tail_wrong h e = rw (drop-cons file at 0 h) (tail_other found at passed (get_or file at 0) _ e)

  pub tail_short : length file ≤ at → passed < 4 → tail found at passed (drop at file) ≡ refused wrong_tail at
  tail_short h l = rw (drop_of_length-le file h) (tail_few found at passed l)

  pub tail_done : length file ≤ at → 4 ≤ passed → tail found at passed (drop at file) ≡ given found
  tail_done h l = rw (drop_of_length-le file h) (tail_enough found at passed l)

-- so many 223s on
pub tail_on : (found : Summary) (file : List ℕ) (at n : ℕ) → at + n ≤ length file → ((k : ℕ) → k < n → get_or file (at + k) 0 ≡ 223)
    → tail found at 0 (drop at file) ≡ tail found (at + n) n (drop (at + n) file)
tail_on found file at zero fits all = ap (λ (m : ℕ). tail found m 0 (drop m file)) (omega arith)
tail_on found file at (suc n) fits all =
    tail_on found file at n (omega arith) (λ k h. all k (omega arith))
    ∙ tail_step found file (at + n) n (omega arith) (all n (omega arith))
    ∙ ap₂ (λ (m passed : ℕ). tail found m passed (drop m file)) (omega arith) (omega arith)

-- ---- over the 223s

module _ (found : Summary) where
  tail_passes : (at passed n : ℕ) (bytes : List ℕ) → tail found at passed (written (fillers n) ++ bytes) ≡ tail found (at + n) (passed + n) bytes
  tail_passes at passed zero bytes =
      let here : at + 0 ≡ at = omega arith in
      let none_more : passed + 0 ≡ passed = omega arith in
      rw (here, none_more)
  tail_passes at passed (suc n) bytes =
      let after : at + suc n ≡ suc at + n = omega arith in
      let one_more : passed + suc n ≡ suc passed + n = omega arith in
      rw (after, one_more, tail_filler found at passed 223 (written (fillers n) ++ bytes) refl) (tail_passes (suc at) (suc passed) n bytes)

  module _ (at n : ℕ) {bytes : List ℕ} where
    only_fillers : bytes ≡ written (fillers n) → tail found at 0 bytes ≡ tail found (at + n) (0 + n) []
    only_fillers e = rw (e, ← (append-nil (written (fillers n)))) (tail_passes at 0 n [])

    pub fillers_few : bytes ≡ written (fillers n) → n < 4 → tail found at 0 bytes ≡ refused wrong_tail (at + n)
    fillers_few e h = only_fillers e ∙ tail_few found (at + n) (0 + n) (omega arith)

    pub fillers_enough : bytes ≡ written (fillers n) → 4 ≤ n → tail found at 0 bytes ≡ given found
    fillers_enough e h = only_fillers e ∙ tail_enough found (at + n) (0 + n) (omega arith)

    pub fillers_wrong : (byte : ℕ) (rest : List ℕ) → bytes ≡ written (fillers n) ++ (byte ∷ rest) → (byte ≡ 223 → ⊥)
        → tail found at 0 bytes ≡ refused wrong_tail (at + n)
    fillers_wrong byte rest e h = rw (e, tail_passes at 0 n (byte ∷ rest)) (tail_other found (at + n) (0 + n) byte rest h)

-- ---- the cases

-- some 223s, and then nothing or another byte
pub data Ending (bytes : List ℕ) : Type 0 where
  ended : (n : ℕ) → bytes ≡ written (fillers n) → Ending bytes
  other : (n byte : ℕ) (rest : List ℕ) → bytes ≡ written (fillers n) ++ (byte ∷ rest) → (byte ≡ 223 → ⊥) → Ending bytes

one_more : (byte : ℕ) {bytes : List ℕ} → byte ≡ 223 → Ending bytes → Ending (byte ∷ bytes)
one_more byte e (ended n q) = ended (suc n) cc
one_more byte e (other n last rest q h) = other (suc n) last rest (cc) h

pub ending : (bytes : List ℕ) → Ending bytes
ending [] = ended 0 refl
ending (byte ∷ bytes) = go (eqb byte 223) refl (ending bytes)
  where
    go : (b : Bool) → eqb byte 223 ≡ b → Ending bytes → Ending (byte ∷ bytes)
    go true e rest-ends = one_more byte (eqb-true byte 223 e) rest-ends
    go false e rest-ends = other 0 byte bytes refl (eqb-false byte 223 e)
