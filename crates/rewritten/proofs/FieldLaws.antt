-- A number that is written into a field is there, what stands beside it stays, and writing it once more changes nothing. Assumes nothing.
use Prim.Native.Nat.{ℕ, zero, suc, ◌+◌, ◌-◌, ◌*◌, ◌^◌, ◌≤◌, ◌<◌}
use mathlib.Core.Path.{◌≡◌, refl, sym, ap, ap₂, ◌∙◌}
use mathlib.Core.List.{List, ◌++◌}
use native.Mathlib.Nat.{add-zero}
use native.Mathlib.Omega.{arith}
use lib.ListN.{length, take, drop, length-append, length-drop, take-append-drop}
use lib.Seq.{take_at, drop_at, take-append-le, drop-append-le, drop-drop, get_or-take, length-take-le}
use Rattle.numbers.specs.Bytes.{unsigned_at, bytes_of}
use Rattle.numbers.proofs.Bytes.{length_bytes, unsigned_drop, read_back}
use Rattle.commands.specs.declared.fields.UnsignedField.{UnsignedField}
use Rattle.commands.specs.Fields.{unsigned_in}
use Rattle.cutting.specs.CutList.{with_unsigned}

-- ---- parts of a list

-- so many bytes from a place on
abbrev pub part : ℕ → ℕ → List ℕ → List ℕ
part from count bytes = take count (drop from bytes)

-- a part of what stands first
part_front : (xs ys : List ℕ) (from count : ℕ) → from + count ≤ length xs → part from count (xs ++ ys) ≡ part from count xs
part_front xs ys from count h =
    ap (take count) (drop-append-le from xs ys (omega arith)) ∙ take-append-le count (drop from xs) ys (omega (arith, length-drop from xs))

unsigned_take : (bytes : List ℕ) (size count : ℕ) → count ≤ size → unsigned_at (take size bytes) 0 count ≡ unsigned_at bytes 0 count
unfolding unsigned_at
unsigned_take bytes size zero h = refl
unsigned_take bytes size (suc count) h =
    ap₂ (λ (value byte : ℕ). value * 256 + byte) (unsigned_take bytes size count (omega arith)) (get_or-take size bytes (0 + count) 0 (omega arith))

-- the number at a place is that of the part there
number_of_part : (bytes : List ℕ) (from count : ℕ) → unsigned_at bytes from count ≡ unsigned_at (part from count bytes) 0 count
number_of_part bytes from count =
    ap (λ (start : ℕ). unsigned_at bytes start count) (sym (add-zero from))
    ∙ sym (unsigned_drop bytes from 0 count) ∙ sym (unsigned_take (drop from bytes) count count (omega arith))

-- where two lists have the same part, they have the same number
pub same_part : (one other : List ℕ) (from count : ℕ) → part from count one ≡ part from count other → unsigned_at one from count ≡ unsigned_at other from count
same_part one other from count e =
    number_of_part one from count ∙ ap (λ (l : List ℕ). unsigned_at l 0 count) e ∙ sym (number_of_part other from count)

-- ---- a field

-- it has the bytes of a number
abbrev pub Held : UnsignedField → ℕ → List ℕ → Type 0
Held field n params = part field.at field.size params ≡ bytes_of field.size n

-- so the number is read there
pub held_reads : (field : UnsignedField) (n : ℕ) (params : List ℕ) → n < 256 ^ field.size → Held field n params → unsigned_in field params ≡ n
held_reads field n params h held =
    number_of_part params field.at field.size ∙ ap (λ (l : List ℕ). unsigned_at l 0 field.size) held ∙ read_back field.size n h

-- and writing it once more changes nothing
pub held_stays : (field : UnsignedField) (n : ℕ) (params : List ℕ) → Held field n params → with_unsigned field n params ≡ params
held_stays field n params held =
    ap₂ (λ (own after : List ℕ). take field.at params ++ (own ++ after)) (sym held) (sym (drop-drop field.size field.at params))
    ∙ ap (λ (l : List ℕ). take field.at params ++ l) (take-append-drop field.size (drop field.at params)) ∙ take-append-drop field.at params

module _ (field : UnsignedField) (n : ℕ) (params : List ℕ) (inside : field.at + field.size ≤ length params) where
  before_size : length (take field.at params) ≡ field.at
  before_size = length-take-le field.at params (omega arith)

  abbrev after : List ℕ
  after = drop (field.at + field.size) params

  abbrev own : List ℕ
  own = bytes_of field.size n

  from_field : drop field.at (with_unsigned field n params) ≡ own ++ after
  from_field = drop_at (take field.at params) (own ++ after) field.at before_size

  -- with another number in a field parameters are as many as before
  pub with_length : length (with_unsigned field n params) ≡ length params
  with_length =
      omega (
        arith,
        length-append (take field.at params) (own ++ after),
        before_size,
        length-append own after,
        length_bytes field.size n,
        length-drop (field.at + field.size) params,
      )

  -- it is there
  pub with_held : Held field n (with_unsigned field n params)
  with_held = ap (take field.size) from_field ∙ take_at own after field.size (length_bytes field.size n)

  -- what stands before it stays
  pub with_before : (from count : ℕ) → from + count ≤ field.at → part from count (with_unsigned field n params) ≡ part from count params
  with_before from count h =
      part_front (take field.at params) (own ++ after) from count (omega (arith, before_size))
      ∙ sym (part_front (take field.at params) (drop field.at params) from count (omega (arith, before_size)))
      ∙ ap (part from count) (take-append-drop field.at params)

  -- so does what stands behind it
  pub with_after : (from count : ℕ) → field.at + field.size ≤ from → part from count (with_unsigned field n params) ≡ part from count params
  with_after from count h =
      let rest = from - (field.at + field.size) in
      let sum : field.at + field.size + rest ≡ from = omega arith in
      let behind : drop (field.at + field.size) (with_unsigned field n params) ≡ after =
      sym (drop-drop field.size field.at (with_unsigned field n params))
      ∙ ap (drop field.size) from_field ∙ drop_at own after field.size (length_bytes field.size n) in
      ap (take count)
      (ap (λ (start : ℕ). drop start (with_unsigned field n params)) (sym sum)
      ∙ sym (drop-drop rest (field.at + field.size) (with_unsigned field n params))
      ∙ ap (drop rest) behind ∙ drop-drop rest (field.at + field.size) params ∙ ap (λ (start : ℕ). drop start params) sum)
