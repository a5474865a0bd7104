-- The front of a list of bytes: a whole command's written form reads back as that command, whatever follows, and what is read is whole and stood
-- there. Assumes nothing.
use mathlib.Core.Path.{◌≡◌, refl, ap, sym, ◌∙◌}
use mathlib.Core.List.{List, [], ◌∷◌, ◌++◌}
use mathlib.Core.Logic.{⊎_elim}
use Prim.Native.Nat.{ℕ, ◌+◌, ◌<◌, ◌≤◌}
use native.Mathlib.Numerals.{add-one}
use native.Mathlib.Omega.{arith}
use lib.ListN.{length, get_or, take, drop, length-append, take-append-drop, drop_of_length-le}
use lib.Seq.{take_at, drop_at, drop-cons, length-take-le}
use borrow.Author.Tests.{lt-ltb, le-ltb, le-leb, lt-leb}
use Rattle.commands.specs.Lengths.{size_of}
use Rattle.commands.specs.Commands.{Command, Whole, form, cut, undefined, whole, front_after, front}
use Rattle.numbers.proofs.Radix.{less_or_not}
use Rattle.commands.proofs.ParameterLengths.{size_append, size_take, whole_fixed}

-- ---- what stands after an opcode, case by case

module _ (opcode : ℕ) (rest : List ℕ) where
  pub after_undefined : 250 ≤ opcode → front_after opcode rest ≡ undefined
  unfolding front_after
  after_undefined h = rw (le-ltb opcode 250 h)

  pub after_cut : opcode < 250 → length rest < size_of opcode rest → front_after opcode rest ≡ cut
  unfolding front_after
  after_cut h l = rw (lt-ltb opcode 250 h, lt-leb (size_of opcode rest) (length rest) l)

  pub after_whole : opcode < 250 → size_of opcode rest ≤ length rest
      → front_after opcode rest ≡ whole (record { opcode = opcode; params = take (size_of opcode rest) rest }) (drop (size_of opcode rest) rest)
  unfolding front_after
  after_whole h l = rw (lt-ltb opcode 250 h, le-leb (size_of opcode rest) (length rest) l)

  data After : Type 0 where
    strange : 250 ≤ opcode → After
    short : opcode < 250 → length rest < size_of opcode rest → After
    fits : opcode < 250 → size_of opcode rest ≤ length rest → After

  after_cases : After
  after_cases = ⊎_elim (λ h. ⊎_elim (short h) (fits h) (less_or_not (length rest) (size_of opcode rest))) strange (less_or_not opcode 250)

-- ---- at a place of a file

pub front_at : (file : List ℕ) (at : ℕ) → at < length file → front (drop at file) ≡ front_after (get_or file at 0) (drop (at + 1) file)
front_at file at h = rw (add-one, drop-cons file at 0 h)

pub front_end : (file : List ℕ) (at : ℕ) → length file ≤ at → front (drop at file) ≡ cut
front_end file at h = rw (drop_of_length-le file h)

-- ---- the two theorems

-- a whole command's written form reads back as that command, whatever follows
pub front_written : (c : Command) (rest : List ℕ) → Whole c → front (form c ++ rest) ≡ whole c rest
front_written c rest w =
    let size : size_of c.opcode (c.params ++ rest) ≡ length c.params =
    size_append c.opcode c.params rest (whole_fixed c w) ∙ sym w.exact in
    rw (
      after_whole c.opcode (c.params ++ rest) w.defined (omega (arith, length-append c.params rest)),
      size,
      take_at c.params rest _ refl,
      drop_at c.params rest _ refl,
    )

-- what is read is whole, and is what stood there
pub front_sound : (bytes : List ℕ) (c : Command) (rest : List ℕ) → front bytes ≡ whole c rest → Whole c × (bytes ≡ form c ++ rest)
front_sound [] c rest e = let z : ◌≡◌ {A = ℕ} 0 1 = cc in absurd (omega arith)
front_sound (opcode ∷ bytes) c rest e = go (after_cases opcode bytes)
  where
    go : After opcode bytes → Whole c × ((opcode ∷ bytes) ≡ form c ++ rest)
    go (strange h) = let z : ◌≡◌ {A = ℕ} 0 1 = cc (after_undefined opcode bytes h) in absurd (omega arith)
    go (short h l) = let z : ◌≡◌ {A = ℕ} 0 1 = cc (after_cut opcode bytes h l) in absurd (omega arith)
    go (fits h l) =
        let command-is : record { opcode = opcode; params = take (size_of opcode bytes) bytes } ≡ c = cc (after_whole opcode bytes h l) in
        let rest_is : drop (size_of opcode bytes) bytes ≡ rest = cc (after_whole opcode bytes h l) in
        rw (← command-is, ← rest_is) (
          record { defined = h; exact = length-take-le (size_of opcode bytes) bytes l ∙ sym (size_take opcode bytes l) },
          rw (take-append-drop (size_of opcode bytes) bytes),
        )

pub front_length : (bytes : List ℕ) (c : Command) (rest : List ℕ) → front bytes ≡ whole c rest → length bytes ≡ 1 + length c.params + length rest
front_length bytes c rest e =
    omega (arith, ap length (front_sound bytes c rest e).1, length-append c.params rest)

-- an opcode of no command: there is a first byte, of 250 or more
pub undefined_first : (bytes : List ℕ) → front bytes ≡ undefined → (0 < length bytes) × (250 ≤ get_or bytes 0 0)
undefined_first [] e = let z : ◌≡◌ {A = ℕ} 0 1 = cc in absurd (omega arith)
undefined_first (opcode ∷ bytes) e = (omega arith, go (after_cases opcode bytes))
  where
    go : After opcode bytes → 250 ≤ opcode
    go (strange h) = h
    go (short h l) = let z : ◌≡◌ {A = ℕ} 0 1 = cc (after_cut opcode bytes h l) in absurd (omega arith)
    go (fits h l) = let z : ◌≡◌ {A = ℕ} 0 1 = cc (after_whole opcode bytes h l) in absurd (omega arith)
