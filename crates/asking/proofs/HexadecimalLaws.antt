-- Laws on bytes in words. Assumes nothing.
use mathlib.Core.Path.{◌≡◌, refl, sym, ap, ◌∙◌}
use mathlib.Core.Bool.{Bool, true, false, cond, ◌&&◌}
use mathlib.Core.List.{List, [], ◌∷◌, ◌++◌, append_assoc, append-nil}
use Prim.Native.Nat.{ℕ, zero, suc, ◌+◌, ◌-◌, ◌*◌, ◌/◌, ◌%◌, ◌≤◌, ◌<◌}
use native.Mathlib.Numerals.{add-one}
use native.Mathlib.Omega.{arith}
use lib.Dec.{eqb}
use lib.Pointwise.{pointwise}
use lib.ListN.{length, get_or, take, drop, set, drop_of_length-le}
use lib.Seq.{drop-cons, take-suc-set}
use Rattle.std.specs.declared.option.Option.{Option}
use Rattle.std.specs.declared.option.Option.TheVariants.{Some, None}
use Rattle.asking.specs.Hexadecimal.{byte_of_pair, before, pairs_within, spelled_within}

-- bytes that were read, before what the rest of the word says
abbrev pub behind : List ℕ → Option (List ℕ) → Option (List ℕ)
behind done None = None
behind done (Some rest) = Some (done ++ rest)

-- a byte more is read
behind_next : (done : List ℕ) (byte : ℕ) (rest : Option (List ℕ)) → behind done (before (Some byte) rest) ≡ behind (done ++ (byte ∷ [])) rest
behind_next done byte None = refl
behind_next done byte (Some rest) = ap Some (sym (append_assoc done (byte ∷ []) rest))

before_none : (byte : Option ℕ) (rest : Option (List ℕ)) → rest ≡ None → before byte rest ≡ None
before_none None rest e = refl
before_none (Some byte) None e = refl
before_none (Some byte) (Some rest) e = absurd cc

-- a word of an odd length
pub odd : (most : ℕ) (word : List ℕ) → length word % 2 ≡ 1 → pairs_within most word ≡ None
unfolding pairs_within
odd most [] e = absurd (omega arith)
odd most (one ∷ []) e = refl
odd zero (high ∷ low ∷ rest) e = refl
odd (suc most) (high ∷ low ∷ rest) e = before_none (byte_of_pair high low) (pairs_within most rest) (odd most rest (omega arith))

-- a word of more bytes than there is room for
pub too_long : (most : ℕ) (word : List ℕ) → most < length word / 2 → pairs_within most word ≡ None
unfolding pairs_within
too_long most [] more = absurd (omega arith)
too_long most (one ∷ []) more = refl
too_long zero (high ∷ low ∷ rest) more = refl
too_long (suc most) (high ∷ low ∷ rest) more = before_none (byte_of_pair high low) (pairs_within most rest) (too_long most rest (omega arith))

ended : (most : ℕ) → pairs_within most [] ≡ Some []
unfolding pairs_within
ended most = refl

pair : (most more high low : ℕ) (rest : List ℕ) → most ≡ suc more → pairs_within most (high ∷ low ∷ rest) ≡ before (byte_of_pair high low) (pairs_within more rest)
unfolding pairs_within
pair most more high low rest e = rw e refl

-- the next two signs
next : (word : List ℕ) (i : ℕ) → i < length word → drop i word ≡ get_or word i 0 ∷ drop (i + 1) word
next word i inside = rw (add-one, drop-cons word i 0)

two : (word : List ℕ) (at : ℕ) → at + 1 < length word → drop at word ≡ get_or word at 0 ∷ get_or word (at + 1) 0 ∷ drop (at + 2) word
two word at inside =
    let place : at + 1 + 1 ≡ at + 2 = omega arith in
    next word at (omega arith)
    ∙ ap (λ (rest : List ℕ). get_or word at 0 ∷ rest) (next word (at + 1) inside ∙ ap (λ (n : ℕ). get_or word (at + 1) 0 ∷ drop n word) place)

-- ---- the loop: the bytes that were read, and then what is left

module _ (most : ℕ) (word buffer : List ℕ) (done : ℕ) where
  abbrev pub Read : Type 0
  Read = pairs_within most word ≡ behind (take done buffer) (pairs_within (most - done) (drop (2 * done) word))

  module _ (read : Read) where
    pub ends : length word ≤ 2 * done → pairs_within most word ≡ Some (take done buffer)
    ends all =
        read
        ∙ ap (λ (left : List ℕ). behind (take done buffer) (pairs_within (most - done) left)) (drop_of_length-le word all)
        ∙ ap (behind (take done buffer)) (ended (most - done))
        ∙ ap Some (append-nil (take done buffer))

    module _ (inside : 2 * done + 1 < length word) (room : done < most) where
      abbrev here : Option ℕ
      here = byte_of_pair (get_or word (2 * done) 0) (get_or word (2 * done + 1) 0)

      abbrev left : Option (List ℕ)
      left = pairs_within (most - (done + 1)) (drop (2 * (done + 1)) word)

      goes : pairs_within most word ≡ behind (take done buffer) (before here left)
      goes =
          let place : 2 * done + 2 ≡ 2 * (done + 1) = omega arith in
          read
          ∙ ap (λ (rest : List ℕ). behind (take done buffer) (pairs_within (most - done) rest)) (two word (2 * done) inside)
          ∙ ap
          (behind (take done buffer))
          (pair (most - done) (most - (done + 1)) (get_or word (2 * done) 0) (get_or word (2 * done + 1) 0) (drop (2 * done + 2) word) (omega arith))
          ∙ ap (λ (n : ℕ). behind (take done buffer) (before here (pairs_within (most - (done + 1)) (drop n word)))) place

      pub wrong : here ≡ None → pairs_within most word ≡ None
      wrong e = goes ∙ ap (λ (b : Option ℕ). behind (take done buffer) (before b left)) e

      pub right : (byte : ℕ) → here ≡ Some byte → length buffer ≡ most → pairs_within most word ≡ behind (take (done + 1) (set buffer done byte)) left
      right byte e same =
          let written : take (done + 1) (set buffer done byte) ≡ take done buffer ++ (byte ∷ []) =
          ap (λ (n : ℕ). take n (set buffer done byte)) (add-one done) ∙ take-suc-set buffer done byte (omega arith) in
          goes
          ∙ ap (λ (b : Option ℕ). behind (take done buffer) (before b left)) e
          ∙ behind_next (take done buffer) byte left
          ∙ ap (λ (l : List ℕ). behind l left) (sym written)

-- nothing is read yet
pub begins : (most : ℕ) (word buffer : List ℕ) → Read most word buffer 0
begins most word buffer = let same : most ≡ most - 0 = omega arith in go (pairs_within most word) ∙ ap (λ (n : ℕ). behind [] (pairs_within n word)) same
  where
    go : (all : Option (List ℕ)) → all ≡ behind [] all
    go None = refl
    go (Some all) = refl

-- a word that is neither empty nor a dash is pairs
pub pairs : (most : ℕ) (word : List ℕ) → eqb (length word) 0 ≡ false → pointwise eqb word (45 ∷ []) ≡ false → spelled_within most word ≡ pairs_within most word
unfolding pairs_within
pairs most [] some other = absurd cc
pairs most (sign ∷ []) some other = go (eqb sign 45) other
  where
    go : (dash : Bool) → (dash && true) ≡ false → ◌≡◌ {A = Option (List ℕ)} (cond dash (Some []) None) None
    go true e = absurd cc
    go false e = refl
pairs most (high ∷ low ∷ rest) some other = refl
