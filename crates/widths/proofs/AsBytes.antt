-- Numbers of equally many bytes, the highest first, are in the order in which the first byte that differs puts them, and so are the table's keys. Assumes nothing.
use mathlib.Core.Path.{◌≡◌, refl, sym, ap, ap₂, ◌∙◌}
use mathlib.Core.Bool.{Bool, true, false, cond}
use mathlib.Core.List.{List, [], ◌∷◌}
use Prim.Native.Nat.{ℕ, zero, suc, ◌+◌, ◌*◌, ◌^◌, ◌≤◌, ◌<◌}
use native.Mathlib.Nat.{zero-add, suc-mul, pow-suc, mul_assoc}
use native.Mathlib.Omega.{arith}
use lib.Dec.{ltb, eqb}
use lib.ListN.{length, get_or, take, drop, length-drop}
use lib.Seq.{length-take-le, get_or-take, get_or-drop}
use borrow.Author.Tests.{eqb-true, eqb-false}
use Rattle.numbers.specs.Bytes.{unsigned_at}
use Rattle.numbers.proofs.Bytes.{unsigned_below}
use Rattle.widths.specs.Table.{size_with, record_in, rises_in}
use Rattle.widths.specs.AsBytes.{Bytes, rises_as_bytes, key_bytes}
use Rattle.numbers.proofs.Radix.{first_decides, second_decides, first_same, second_same}

-- ---- a number by its first byte

first_byte : (x : ℕ) (xs : List ℕ) (count : ℕ) → unsigned_at (x ∷ xs) 0 (suc count) ≡ x * 256 ^ count + unsigned_at xs 0 count
unfolding unsigned_at
first_byte x xs zero = omega arith
first_byte x xs (suc count) =
    let last : get_or (x ∷ xs) (0 + suc count) 0 ≡ get_or xs (0 + count) 0 = ap (λ (n : ℕ). get_or (x ∷ xs) n 0) (zero-add (suc count)) ∙ ap (λ (n : ℕ). get_or xs n 0) (sym (zero-add count)) in
    let power : x * 256 ^ suc count ≡ x * 256 ^ count * 256 = ap (λ (n : ℕ). x * n) (pow-suc 256 count) ∙ sym (mul_assoc x (256 ^ count) 256) in
    omega (arith, first_byte x xs count, last, power)

-- ---- the order

module _ (x y high low_x low-y : ℕ) (x_in : low_x < high) (y_in : low-y < high) where
  decided : (outcome : Bool) → eqb x y ≡ outcome → cond outcome (ltb low_x low-y) (ltb x y) ≡ ltb (x * high + low_x) (y * high + low-y)
  decided true e = second_decides x y high low_x low-y x_in (eqb-true x y e)
  decided false e = first_decides x y high low_x low-y x_in (omega arith) (eqb-false x y e)

none : (ys : List ℕ) → false ≡ ltb (unsigned_at [] 0 0) (unsigned_at ys 0 0)
unfolding unsigned_at
none ys = refl

rises_by : (xs ys : List ℕ) (count : ℕ) → length xs ≡ count → length ys ≡ count → Bytes xs → Bytes ys → rises_as_bytes xs ys ≡ ltb (unsigned_at xs 0 count) (unsigned_at ys 0 count)
rises_by [] ys zero a b p q = none ys
rises_by [] ys (suc count) a b p q = absurd (omega arith)
rises_by (x ∷ xs) ys zero a b p q = absurd (omega arith)
rises_by (x ∷ xs) [] (suc count) a b p q = absurd (omega arith)
rises_by (x ∷ xs) (y ∷ ys) (suc count) a b p q =
    let p-rest : Bytes xs = λ i h. p (suc i) (omega arith) in
    let q-rest : Bytes ys = λ i h. q (suc i) (omega arith) in
    let rest : rises_as_bytes xs ys ≡ ltb (unsigned_at xs 0 count) (unsigned_at ys 0 count) = rises_by xs ys count (omega arith) (omega arith) p-rest q-rest in
    rw (first_byte x xs count, first_byte y ys count, rest)
    (decided x y (256 ^ count) (unsigned_at xs 0 count) (unsigned_at ys 0 count) (unsigned_below xs 0 count (λ i h. p-rest (0 + i) (omega arith))) (unsigned_below ys 0 count (λ i h. q-rest (0 + i) (omega arith))) (eqb x y) refl)

pub as_bytes : (xs ys : List ℕ) → length xs ≡ length ys → Bytes xs → Bytes ys → rises_as_bytes xs ys ≡ ltb (unsigned_at xs 0 (length xs)) (unsigned_at ys 0 (length ys))
as_bytes xs ys e p q = rises_by xs ys (length xs) refl (sym e) p q ∙ ap (λ (n : ℕ). ltb (unsigned_at xs 0 (length xs)) (unsigned_at ys 0 n)) e

-- ---- equal numbers of equally many bytes are equal bytes

pub bytes_same : (xs ys : List ℕ) (count : ℕ) → length xs ≡ count → length ys ≡ count → Bytes xs → Bytes ys → unsigned_at xs 0 count ≡ unsigned_at ys 0 count → xs ≡ ys
bytes_same [] [] count a b p q e = refl
bytes_same [] (y ∷ ys) count a b p q e = absurd (omega arith)
bytes_same (x ∷ xs) [] count a b p q e = absurd (omega arith)
bytes_same (x ∷ xs) (y ∷ ys) zero a b p q e = absurd (omega arith)
bytes_same (x ∷ xs) (y ∷ ys) (suc count) a b p q e =
    let p-rest : Bytes xs = λ i h. p (suc i) (omega arith) in
    let q-rest : Bytes ys = λ i h. q (suc i) (omega arith) in
    let split : x * 256 ^ count + unsigned_at xs 0 count ≡ y * 256 ^ count + unsigned_at ys 0 count = sym (first_byte x xs count) ∙ e ∙ first_byte y ys count in
    let x_in = unsigned_below xs 0 count (λ i h. p-rest (0 + i) (omega arith)) in
    let y_in = unsigned_below ys 0 count (λ i h. q-rest (0 + i) (omega arith)) in
    ap₂ (λ (b : ℕ) (l : List ℕ). b ∷ l) (first_same x y (256 ^ count) (unsigned_at xs 0 count) (unsigned_at ys 0 count) x_in y_in split)
    (bytes_same xs ys count (omega arith) (omega arith) p-rest q-rest (second_same x y (256 ^ count) (unsigned_at xs 0 count) (unsigned_at ys 0 count) x_in y_in split))

-- ---- the table's keys

part_byte : (table : List ℕ) (at count i : ℕ) → i < count → get_or (take count (drop at table)) i 0 ≡ get_or table (at + i) 0
part_byte table at count i h = get_or-take count (drop at table) i 0 h ∙ get_or-drop at table i 0

unsigned_part : (table : List ℕ) (at count upto : ℕ) → upto ≤ count → unsigned_at (take count (drop at table)) 0 upto ≡ unsigned_at table at upto
unfolding unsigned_at
unsigned_part table at count zero h = refl
unsigned_part table at count (suc upto) h =
    ap₂ (λ (v b : ℕ). v * 256 + b) (unsigned_part table at count upto (omega arith))
    (ap (λ (n : ℕ). get_or (take count (drop at table)) n 0) (zero-add upto) ∙ part_byte table at count upto h)

module _ (table : List ℕ) (bytes : Bytes table) where
  module _ (at count : ℕ) (inside : at + count ≤ length table) where
    part_length : length (take count (drop at table)) ≡ count
    part_length = length-take-le count (drop at table) (omega (arith, length-drop at table))

    part_bytes : Bytes (take count (drop at table))
    part_bytes i h = let short : i < count = omega (arith, part_length) in rw (part_byte table at count i short) (bytes (at + i) (omega arith))

  -- equal numbers at two places are equal bytes there
  pub parts_same : (at other count : ℕ) → at + count ≤ length table → other + count ≤ length table → unsigned_at table at count ≡ unsigned_at table other count
      → take count (drop at table) ≡ take count (drop other table)
  parts_same at other count here there e =
      bytes_same (take count (drop at table)) (take count (drop other table)) count (part_length at count here) (part_length other count there) (part_bytes at count here) (part_bytes other count there)
      (unsigned_part table at count count (omega arith) ∙ e ∙ sym (unsigned_part table other count count (omega arith)))

  -- ---- of a record, whatever its form

  module _ (named index : ℕ) (inside : index * size_with named + size_with named ≤ length table) where
    key_number_lem : unsigned_at (key_bytes named table index) 0 (named + 9) ≡ (record_in named table index).key
    unfolding record_in
    key_number_lem = unsigned_part table (index * size_with named) (named + 9) (named + 9) (omega arith)

    within : index * size_with named + (named + 9) ≤ length table
    within = omega arith

  -- to rise from record to record is to rise as bytes
  pub rises_as_bytes_lem : (named index : ℕ) → suc index * size_with named + size_with named ≤ length table
      → rises_in named table (suc index) ≡ rises_as_bytes (key_bytes named table index) (key_bytes named table (suc index))
  rises_as_bytes_lem named index inside =
      let before : index * size_with named + size_with named ≤ length table = omega (arith, suc-mul index (size_with named)) in
      let first = within named index before in
      let second = within named (suc index) inside in
      let at = index * size_with named in
      let next = suc index * size_with named in
      sym (rises_by (key_bytes named table index) (key_bytes named table (suc index)) (named + 9) (part_length at (named + 9) first) (part_length next (named + 9) second) (part_bytes at (named + 9) first) (part_bytes next (named + 9) second)
      ∙ ap₂ ltb (key_number_lem named index before) (key_number_lem named (suc index) inside))
