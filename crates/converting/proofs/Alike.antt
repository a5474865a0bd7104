-- Records of two tables that are the same but for how many zeros they have for a name: the same fields, found alike, and their keys rise alike. Assumes nothing.
use Prim.Native.Nat.{ℕ, zero, suc, ◌+◌, ◌*◌, ◌^◌, ◌≤◌, ◌<◌}
use mathlib.Core.Path.{◌≡◌, refl, sym, ap, ap₂, ◌∙◌}
use mathlib.Core.Bool.{Bool, true, false, cond, ◌&&◌}
use mathlib.Core.List.{List, [], ◌∷◌}
use mathlib.Core.Logic.{⊎_elim}
use native.Mathlib.Nat.{eq-or-lt_of_le}
use native.Mathlib.Omega.{arith}
use borrow.Author.Tests.{eqb-true, eqb-false, eq-eqb}
use lib.Dec.{ltb, eqb}
use lib.ListN.{get_or, take, drop}
use lib.Seq.{get_or-drop}
use Rattle.numbers.specs.Bytes.{unsigned_at}
use Rattle.numbers.specs.Signs.{from_twos}
use Rattle.numbers.specs.Sizes.{lawful_size}
use Rattle.numbers.proofs.Bytes.{unsigned_more, unsigned_join, power_le}
use Rattle.numbers.proofs.Radix.{first_decides, second_decides}
use Rattle.names.specs.Names.{all_zeros, name_then_zeros}
use Rattle.scaling.specs.declared.FixWord.{FixWord}
use Rattle.scaling.specs.Scaling.{lawful_first}
use Rattle.widths.specs.Table.{size_with, record_in, lawful_fields}
use Rattle.widths.specs.LookUp.{metric_of, is_for}

-- ---- numbers and their bytes

-- the same bytes are the same number
unsigned_same : (xs ys : List ℕ) (a b count : ℕ) → ((i : ℕ) → i < count → get_or xs (a + i) 0 ≡ get_or ys (b + i) 0) → unsigned_at xs a count ≡ unsigned_at ys b count
unfolding unsigned_at
unsigned_same xs ys a b zero same = refl
unsigned_same xs ys a b (suc count) same =
    ap₂ (λ (value byte : ℕ). value * 256 + byte) (unsigned_same xs ys a b count (λ i h. same i (omega arith))) (same count (omega arith))

-- zeros are 0, and 0 is zeros
unsigned_zeros : (bytes : List ℕ) (at count : ℕ) → ((i : ℕ) → i < count → get_or bytes (at + i) 0 ≡ 0) → unsigned_at bytes at count ≡ 0
unfolding unsigned_at
unsigned_zeros bytes at zero zeros = refl
unsigned_zeros bytes at (suc count) zeros = omega (arith, unsigned_zeros bytes at count (λ i h. zeros i (omega arith)), zeros count (omega arith))

pub zero_bytes : (bytes : List ℕ) (at count : ℕ) → unsigned_at bytes at count ≡ 0 → (i : ℕ) → i < count → get_or bytes (at + i) 0 ≡ 0
unfolding unsigned_at
zero_bytes bytes at zero e i h = absurd (omega arith)
zero_bytes bytes at (suc count) e i h =
    let last : get_or bytes (at + count) 0 ≡ 0 = omega arith in
    let before : unsigned_at bytes at count ≡ 0 = omega arith in
    let near : i ≤ count = omega arith in
    ⊎_elim (λ (same : i ≡ count). ap (λ (n : ℕ). get_or bytes (at + n) 0) same ∙ last) (λ (under : i < count). zero_bytes bytes at count before i under) (eq-or-lt_of_le near)

-- zeros are a lawful name
all_zeros_lem : (count : ℕ) (bytes : List ℕ) → ((i : ℕ) → i < count → get_or bytes i 0 ≡ 0) → all_zeros (take count bytes) ≡ true
all_zeros_lem zero bytes zeros = refl
all_zeros_lem (suc count) [] zeros = refl
all_zeros_lem (suc count) (b ∷ bytes) zeros =
    ap₂ ◌&&◌ (eq-eqb b 0 (zeros 0 (omega arith))) (all_zeros_lem count bytes (λ i h. zeros (suc i) (omega arith)))

zeros_name : (count : ℕ) (bytes : List ℕ) → ((i : ℕ) → i < count → get_or bytes i 0 ≡ 0) → name_then_zeros (take count bytes) ≡ true
zeros_name zero bytes zeros = refl
zeros_name (suc count) [] zeros = refl
zeros_name (suc count) (b ∷ bytes) zeros =
    ap₂ (λ (here rest : Bool). cond here rest (name_then_zeros (take count bytes))) (eq-eqb b 0 (zeros 0 (omega arith))) (all_zeros_lem count bytes (λ i h. zeros (suc i) (omega arith)))

-- two numbers of a head and a code are in the same order, whatever the head counts
same_order : (head head' code code' base base' : ℕ) → code < 256 → code' < 256 → 256 ≤ base → 256 ≤ base'
    → ltb (head * base + code) (head' * base + code') ≡ ltb (head * base' + code) (head' * base' + code')
same_order head head' code code' base base' low low' wide wide' = by (eqb head head') refl
  where
    by : (same : Bool) → eqb head head' ≡ same → ltb (head * base + code) (head' * base + code') ≡ ltb (head * base' + code) (head' * base' + code')
    by true e =
        let heads : head ≡ head' = eqb-true head head' e in
        sym (second_decides head head' base code code' (omega arith) heads) ∙ second_decides head head' base' code code' (omega arith) heads
    by false e =
        sym (first_decides head head' base code code' (omega arith) (omega arith) (eqb-false head head' e))
        ∙ first_decides head head' base' code code' (omega arith) (omega arith) (eqb-false head head' e)

-- ---- a record without a name

-- the bytes for a name are zeros
abbrev pub NoName : ℕ → List ℕ → ℕ → Type 0
NoName named table index = (i : ℕ) → i < named → get_or table (index * size_with named + (8 + i)) 0 ≡ 0

module _ (named : ℕ) (table : List ℕ) (index : ℕ) where
  abbrev at : ℕ
  at = index * size_with named

  byte_place : (i : ℕ) → get_or table (at + 8 + i) 0 ≡ get_or table (at + (8 + i)) 0
  byte_place i = let same : at + 8 + i ≡ at + (8 + i) = omega arith in ap (λ (n : ℕ). get_or table n 0) same

  -- a name of 0 is none
  pub none_by_number : (record_in named table index).name ≡ 0 → NoName named table index
  unfolding record_in
  none_by_number e i h = sym (byte_place i) ∙ zero_bytes table (at + 8) named e i h

  module _ (none : NoName named table index) where
    pub no_number : (record_in named table index).name ≡ 0
    unfolding record_in
    no_number = unsigned_zeros table (at + 8) named (λ i h. byte_place i ∙ none i h)

    no_name_lawful : name_then_zeros (record_in named table index).name_bytes ≡ true
    unfolding record_in
    no_name_lawful = zeros_name named (drop (at + 8) table) (λ i h. get_or-drop (at + 8) table i 0 ∙ byte_place i ∙ none i h)

    -- its key is check sum, scale and code
    key_parts : (record_in named table index).key ≡ unsigned_at table at 8 * 256 ^ (named + 1) + (record_in named table index).code
    unfolding record_in
    key_parts =
        let count : named + 9 ≡ 8 + (named + 1) = omega arith in
        let place : at + 8 + named ≡ at + (named + 8) = omega arith in
        let last : unsigned_at table (at + 8) (named + 1) ≡ get_or table (at + (named + 8)) 0 =
        unsigned_more table (at + 8) named ∙ omega (arith, no_number, ap (λ (n : ℕ). get_or table n 0) place) in
        ap (unsigned_at table at) count ∙ unsigned_join table at 8 (named + 1) ∙ ap (λ (n : ℕ). unsigned_at table at 8 * 256 ^ (named + 1) + n) last

-- ---- the same record with another name

-- the records of an index in two tables, of the one form and of the other: the same bytes before the name and behind it, and no name
pub record Alike (from to : ℕ) (table new : List ℕ) (index : ℕ) : Type 0 where
  pub front : (i : ℕ) → i < 8 → get_or new (index * size_with to + i) 0 ≡ get_or table (index * size_with from + i) 0
  pub back : (i : ℕ) → i < 8 → get_or new (index * size_with to + (to + (8 + i))) 0 ≡ get_or table (index * size_with from + (from + (8 + i))) 0
  pub none_before : NoName from table index
  pub none : NoName to new index

module _ (from to : ℕ) (table new : List ℕ) where
  module _ (index : ℕ) (alike : Alike from to table new index) where
    abbrev before : ℕ
    before = index * size_with from

    abbrev behind : ℕ
    behind = index * size_with to

    head_same : unsigned_at new behind 8 ≡ unsigned_at table before 8
    head_same = unsigned_same new table behind before 8 alike.front

    checksum_same : unsigned_at new behind 4 ≡ unsigned_at table before 4
    checksum_same = unsigned_same new table behind before 4 (λ i h. alike.front i (omega arith))

    scale_same : unsigned_at new (behind + 4) 4 ≡ unsigned_at table (before + 4) 4
    scale_same =
        unsigned_same new table (behind + 4) (before + 4) 4 (λ i h.
        let new_place_is : behind + 4 + i ≡ behind + (4 + i) = omega arith in
        let place : before + (4 + i) ≡ before + 4 + i = omega arith in
        ap (λ (n : ℕ). get_or new n 0) new_place_is ∙ alike.front (4 + i) (omega arith) ∙ ap (λ (n : ℕ). get_or table n 0) place)

    escapement_same : unsigned_at new (behind + (to + 10)) 2 ≡ unsigned_at table (before + (from + 10)) 2
    escapement_same =
        unsigned_same new table (behind + (to + 10)) (before + (from + 10)) 2 (λ i h.
        let new_place_is : behind + (to + 10) + i ≡ behind + (to + (8 + (2 + i))) = omega arith in
        let place : before + (from + (8 + (2 + i))) ≡ before + (from + 10) + i = omega arith in
        ap (λ (n : ℕ). get_or new n 0) new_place_is ∙ alike.back (2 + i) (omega arith) ∙ ap (λ (n : ℕ). get_or table n 0) place)

    name_same : (record_in to new index).name ≡ (record_in from table index).name
    name_same = no_number to new index alike.none ∙ sym (no_number from table index alike.none_before)

    width_same : (record_in to new index).width ≡ (record_in from table index).width
    unfolding record_in
    width_same =
        ap₂ (λ (first : ℕ → FixWord) (b3 : ℕ). first b3)
        (ap₂ (λ (first : ℕ → ℕ → FixWord) (b2 : ℕ). first b2) (ap₂ (λ (b0 b1 : ℕ). λ b2 b3. record { b0 = b0; b1 = b1; b2 = b2; b3 = b3 }) (alike.back 4 (omega arith)) (alike.back 5 (omega arith))) (alike.back 6 (omega arith)))
        (alike.back 7 (omega arith))

    -- what is found of the character
    pub metric_same : metric_of (record_in to new index) ≡ metric_of (record_in from table index)
    unfolding record_in
    metric_same = ap₂ (λ (n : ℕ) (w : FixWord). record { escapement = from_twos (256 ^ 2) n; width = w }) escapement_same width_same

    -- whose it is
    pub for_same : (checksum scale name byte : ℕ) → is_for (record_in to new index) checksum scale name byte ≡ is_for (record_in from table index) checksum scale name byte
    unfolding record_in
    for_same checksum scale name byte =
        ap₂ (λ (a b : Bool). a && b) (ap (λ (n : ℕ). eqb n checksum) checksum_same)
        (ap₂ (λ (a b : Bool). a && b) (ap (λ (n : ℕ). eqb n scale) scale_same)
        (ap₂ (λ (a b : Bool). a && b) (ap (λ (n : ℕ). eqb n name) name_same) (ap (λ (n : ℕ). eqb n byte) (alike.back 0 (omega arith)))))

    -- and whether its fields are right
    pub fields_same : lawful_fields (record_in to new index) ≡ lawful_fields (record_in from table index)
    unfolding record_in
    fields_same =
        ap₂ (λ (a b : Bool). a && b) (ap lawful_size scale_same)
        (ap₂ (λ (a b : Bool). a && b) (no_name_lawful to new index alike.none ∙ sym (no_name_lawful from table index alike.none_before))
        (ap₂ (λ (zero_byte first : ℕ). eqb zero_byte 0 && lawful_first first) (alike.back 1 (omega arith)) (alike.back 4 (omega arith))))

    abbrev code : ℕ
    code = (record_in from table index).code

    key_same : (record_in to new index).key ≡ unsigned_at table before 8 * 256 ^ (to + 1) + code
    unfolding record_in
    key_same = key_parts to new index alike.none ∙ ap₂ (λ (head byte : ℕ). head * 256 ^ (to + 1) + byte) head_same (alike.back 0 (omega arith))

  -- of two records the same one is the first
  pub keys_same : (index other : ℕ) → Alike from to table new index → Alike from to table new other → (record_in from table index).code < 256 → (record_in from table other).code < 256
      → ltb (record_in to new index).key (record_in to new other).key ≡ ltb (record_in from table index).key (record_in from table other).key
  keys_same index other here there low low' =
      let head = unsigned_at table (index * size_with from) 8 in
      let head' = unsigned_at table (other * size_with from) 8 in
      ap₂ ltb (key_same index here) (key_same other there)
      ∙ same_order head head' (code index here) (code other there) (256 ^ (to + 1)) (256 ^ (from + 1)) low low' (power_le 1 (to + 1) (omega arith)) (power_le 1 (from + 1) (omega arith))
      ∙ ap₂ ltb (sym (key_parts from table index here.none_before)) (sym (key_parts from table other there.none_before))
