-- The table's check, whatever the form of its records: its loop against `checked_from`, and what holds of a table that was judged right: whole records, whose
-- keys rise. Assumes nothing.
use mathlib.Core.Path.{◌≡◌, refl, sym, ap, ap₂, subst, ◌∙◌}
use mathlib.Core.Logic.{⊎_elim}
use mathlib.Core.Bool.{Bool, true, false, not, cond, ◌&&◌, and_assoc, and-eq-true_iff}
use mathlib.Core.List.{List}
use Prim.Native.Nat.{ℕ, zero, suc, ◌+◌, ◌*◌, ◌/◌, ◌≤◌, ◌<◌}
use native.Mathlib.Nat.{lt_trans, eq-or-lt_of_le, zero-mul, suc-mul, le-mul_of_pos_right, mul-le-mul_right, mul-div_cancel}
use native.Mathlib.Omega.{arith}
use lib.Dec.{ltb, leb}
use lib.ListN.{length, get_or}
use borrow.Author.Tests.{ltb-true, ltb-false, leb-true, leb-false, lt-ltb, le-ltb, lt-leb, le-leb, not-false}
use Rattle.refusals.specs.Numbers.{wrong_width_table}
use Rattle.refusals.specs.Answer.{refused, given, refuse_if}
use Rattle.refusals.proofs.Answer.{given_next, given_same}
use Rattle.numbers.specs.Bytes.{unsigned_at}
use Rattle.numbers.specs.Sizes.{lawful_size}
use Rattle.names.specs.Names.{name_then_zeros}
use Rattle.widths.specs.Steps.{lawful_block, lawful_rest, Checking}
use Rattle.scaling.specs.Fractions.{LastBytes}
use Rattle.numbers.proofs.Radix.{less_or_not}
use Rattle.widths.proofs.Keys.{low_key}
use Rattle.widths.specs.Table.{size_with, WidthRecord, record_with, record_in, rises_in, lawful_fields, whole_in, right_in, checked_from, checked_in}

rises_by : (last next : ℕ) (outcome : Bool) → ltb next (last + 1) ≡ outcome → ltb last next ≡ not outcome
rises_by last next true e = le-ltb last next (omega (arith, ltb-true next (last + 1) e))
rises_by last next false e = lt-ltb last next (omega (arith, ltb-false next (last + 1) e))

-- to rise is to reach the next number
rises_next : (last next : ℕ) → ltb last next ≡ not (ltb next (last + 1))
rises_next last next = rises_by last next (ltb next (last + 1)) refl

-- a record's fields are those of its key and those behind it
fields_parts : (r : WidthRecord) → lawful_fields r ≡ (lawful_block r && lawful_rest r)
fields_parts r = sym (and_assoc (lawful_size r.scale) (name_then_zeros r.name_bytes) (lawful_rest r))

module _ (named : ℕ) where
  abbrev size : ℕ
  size = size_with named

  some : 0 < size
  some = omega arith

  -- the place of the next record
  next_place : (index : ℕ) → suc index * size ≡ index * size + size
  next_place index = suc-mul index size

  -- there are no more records than bytes
  index_within : (index : ℕ) → index ≤ index * size
  index_within index = le-mul_of_pos_right index some

  -- ---- the loop

  module _ (table : List ℕ) where
    -- a first key below 256 has scale 0, which is not lawful
    first_reach : (low : Bool) → ltb (record_in named table 0).key 256 ≡ low → lawful_fields (record_in named table 0) ≡ (not low && lawful_fields (record_in named table 0))
    unfolding record_in
    first_reach true e =
        let none : unsigned_at table (0 * size + 4) 4 ≡ 0 = low_key named table (0 * size) (ltb-true (unsigned_at table (0 * size) (named + 9)) 256 e) in
        let r = record_with named table (0 * size) in
        ap (λ (scale : ℕ). lawful_size scale && (name_then_zeros r.name_bytes && lawful_rest r)) none
    first_reach false e = refl

    pub check_starts : Checking named table 0 256
    check_starts =
        record {
          index = 0;
          left = suc (length table);
          place = sym (zero-mul size);
          enough = omega arith;
          reach = first_reach (ltb (record_in named table 0).key 256) refl;
          rest = refl;
        }

    -- a record that is reached is right or its place is the answer
    opened : (left index : ℕ) → index * size < length table
        → checked_from named (suc left) table index ≡ refuse_if (not (right_in named table index)) wrong_width_table (index * size) (checked_from named left table (suc index))
    unfolding checked_from
    opened left index h =
        ap (λ (over : Bool). cond over (given index) (refuse_if (not (right_in named table index)) wrong_width_table (index * size) (checked_from named left table (suc index)))) (lt-leb (length table) (index * size) h)

    ended : (left index : ℕ) → length table ≤ index * size → checked_from named left table index ≡ given index
    unfolding checked_from
    ended zero index h = refl
    ended (suc left) index h = simp (le-leb (length table) (index * size) h)

    wrong_by : (left index : ℕ) → index * size < length table → index + left ≡ suc (length table) → right_in named table index ≡ false
        → checked_from named left table index ≡ refused wrong_width_table (index * size)
    wrong_by zero index h enough e = absurd (omega (arith, index_within index))
    wrong_by (suc left) index h enough e = opened left index h ∙ simp e

    turn_by : (left index : ℕ) → index * size < length table → index + left ≡ suc (length table) → right_in named table index ≡ true
        → checked_from named left table index ≡ checked_in named table → Checking named table (index * size + size) ((record_in named table index).key + 1)
    turn_by zero index h enough e rest = absurd (omega (arith, index_within index))
    turn_by (suc left) index h enough e rest =
        record {
          index = suc index;
          left = left;
          place = sym (next_place index);
          enough = omega arith;
          reach = ap (λ (rise : Bool). rise && lawful_fields (record_in named table (suc index))) (rises_next (record_in named table index).key (record_in named table (suc index)).key);
          rest = sym (opened left index h ∙ simp e) ∙ rest;
        }

    module _ (at least : ℕ) (c : Checking named table at least) where
      abbrev pub here : ℕ
      here = (record_in named table c.index).key

      pub check_ends : length table ≤ at → given (at / size) ≡ checked_in named table
      check_ends h =
          let e : at / size ≡ c.index = ap (λ (n : ℕ). n / size) c.place ∙ mul-div_cancel c.index some in
          ap given e ∙ sym (ended c.left c.index (omega (arith, c.place))) ∙ c.rest

      wrong : at < length table → right_in named table c.index ≡ false → refused wrong_width_table at ≡ checked_in named table
      wrong h e = ap (refused wrong_width_table) c.place ∙ sym (wrong_by c.left c.index (omega (arith, c.place)) c.enough e) ∙ c.rest

      pub check_cut : at < length table → length table < at + size → refused wrong_width_table at ≡ checked_in named table
      check_cut h l = wrong h (simp (lt-leb (c.index * size + size) (length table) (omega (arith, c.place))))

      -- the key reaches `least`, and its scale and name are lawful
      abbrev pub key_right : Bool
      key_right = not (ltb here least) && lawful_block (record_with named table at)

      -- a whole record is right where its key is, and the rest
      right_is : at + size ≤ length table → right_in named table c.index ≡ (key_right && lawful_rest (record_with named table at))
      unfolding record_in
      right_is h =
          simp (le-leb (c.index * size + size) (length table) (omega (arith, c.place)))
          (c.reach ∙ ap (λ (n : ℕ). not (ltb here least) && lawful_fields (record_with named table n)) (sym c.place)
          ∙ ap (λ (t : Bool). not (ltb here least) && t) (fields_parts (record_with named table at))
          ∙ sym (and_assoc (not (ltb here least)) (lawful_block (record_with named table at)) (lawful_rest (record_with named table at))))

      pub check_key : at + size ≤ length table → key_right ≡ false → refused wrong_width_table at ≡ checked_in named table
      check_key h e = wrong (omega arith) (right_is h ∙ ap (λ (key : Bool). key && lawful_rest (record_with named table at)) e)

      pub check_rest : at + size ≤ length table → key_right ≡ true → lawful_rest (record_with named table at) ≡ false → refused wrong_width_table at ≡ checked_in named table
      check_rest h e f = wrong (omega arith) (right_is h ∙ ap₂ ◌&&◌ e f)

      pub check_turns : at + size ≤ length table → key_right ≡ true → lawful_rest (record_with named table at) ≡ true → Checking named table (at + size) (here + 1)
      check_turns h e f =
          subst (λ (n : ℕ). Checking named table (n + size) (here + 1)) (sym c.place)
          (turn_by c.left c.index (omega (arith, c.place)) c.enough (right_is h ∙ ap₂ ◌&&◌ e f) c.rest)

  -- ---- a right table

  right_parts : (table : List ℕ) (index : ℕ) → right_in named table index ≡ true
      → (whole_in named table index ≡ true) × (rises_in named table index ≡ true) × (lawful_fields (record_in named table index) ≡ true)
  right_parts table index e =
      let fields = lawful_fields (record_in named table index) in
      let outer = (and-eq-true_iff (whole_in named table index) (rises_in named table index && fields)).0 e in
      let inner = (and-eq-true_iff (rises_in named table index) fields).0 outer.1 in
      (outer.0, inner.0, inner.1)

  -- what is known of a table that was judged right from an index on
  record RightFrom (table : List ℕ) (from records : ℕ) : Type 0 where
    whole_size : records * size ≡ length table
    right : (index : ℕ) → from ≤ index → index < records → right_in named table index ≡ true

  module _ (table : List ℕ) (records : ℕ) where
    right_by : (left index : ℕ) (over : Bool) → leb (length table) (index * size) ≡ over → index * size ≤ length table → checked_from named (suc left) table index ≡ given records
        → (suc index * size ≤ length table → checked_from named left table (suc index) ≡ given records → RightFrom table (suc index) records) → RightFrom table index records
    right_by left index true e fits r next =
        let over : length table ≤ index * size = leb-true (length table) (index * size) e in
        let last : index ≡ records = given_same index records (sym (ended table (suc left) index over) ∙ r) in
        record { whole_size = sym (ap (λ (n : ℕ). n * size) last) ∙ omega arith; right = λ i low high. absurd (omega arith) }
    right_by left index false e fits r next =
        let under : index * size < length table = leb-false (length table) (index * size) e in
        let split = given_next (not (right_in named table index)) wrong_width_table (index * size) (checked_from named left table (suc index)) records (sym (opened table left index under) ∙ r) in
        let here : right_in named table index ≡ true = not-false (right_in named table index) split.0 in
        let whole : index * size + size ≤ length table = leb-true (index * size + size) (length table) (right_parts table index here).0 in
        let more : RightFrom table (suc index) records = next (omega (arith, next_place index)) split.1 in
        record {
          whole_size = more.whole_size;
          right = λ i low high. ⊎_elim (λ (same : index ≡ i). subst (λ (n : ℕ). right_in named table n ≡ true) same here) (λ (past : index < i). more.right i past high) (eq-or-lt_of_le low);
        }

    right_from : (left index : ℕ) → index + left ≡ suc (length table) → index * size ≤ length table → checked_from named left table index ≡ given records → RightFrom table index records
    right_from zero index enough fits r = absurd (omega (arith, index_within index))
    right_from (suc left) index enough fits r =
        right_by left index (leb (length table) (index * size)) refl fits r (λ fits_next r-next. right_from left (suc index) (omega arith) fits_next r-next)

    module _ (judged : checked_in named table ≡ given records) where
      right_all : RightFrom table 0 records
      right_all = right_from (suc (length table)) 0 (omega arith) (omega (arith, zero-mul size)) judged

      -- a right table is its records and nothing more
      pub table_size : records * size ≡ length table
      table_size = right_all.whole_size

      -- each record lies within the table
      pub record_inside : (index : ℕ) → index < records → index * size + size ≤ length table
      record_inside index h =
          let past : suc index * size ≤ records * size = mul-le-mul_right size h in
          omega (arith, table_size, next_place index, past)

      pub record_right : (index : ℕ) → index < records → right_in named table index ≡ true
      record_right index h = right_all.right index (omega arith) h

      -- its fields are right
      pub fields_right : (index : ℕ) → index < records → lawful_fields (record_in named table index) ≡ true
      fields_right index h = (right_parts table index (record_right index h)).2

      rises_one : (index : ℕ) → suc index < records → (record_in named table index).key < (record_in named table (suc index)).key
      rises_one index h = ltb-true (record_in named table index).key (record_in named table (suc index)).key (right_parts table (suc index) (record_right (suc index) h)).1

      pub keys_rise : (i j : ℕ) → i < j → j < records → (record_in named table i).key < (record_in named table j).key
      keys_rise i zero low high = absurd (omega arith)
      keys_rise i (suc j) low high =
          let last : (record_in named table j).key < (record_in named table (suc j)).key = rises_one j high in
          let near : i ≤ j = omega arith in
          ⊎_elim (λ (same : i ≡ j). subst (λ (n : ℕ). (record_in named table n).key < (record_in named table (suc j)).key) (sym same) last)
          (λ (under : i < j). lt_trans (keys_rise i j under (omega arith)) last)
          (eq-or-lt_of_le near)

      -- a key stands in one record only
      pub key_unique : (i j : ℕ) → i < records → j < records → (record_in named table i).key ≡ (record_in named table j).key → i ≡ j
      key_unique i j i-in j-in e =
          ⊎_elim (λ (under : i < j). absurd (omega (arith, keys_rise i j under j-in)))
          (λ (over : j ≤ i). ⊎_elim (λ (same : j ≡ i). sym same) (λ (past : j < i). absurd (omega (arith, keys_rise j i past i-in))) (eq-or-lt_of_le over))
          (less_or_not i j)

  -- a table of right records and no byte more is right
  module _ (table : List ℕ) (records : ℕ) (whole : records * size ≡ length table) (right : (index : ℕ) → index < records → right_in named table index ≡ true) where
    right_on : (left index : ℕ) → index + left ≡ suc (length table) → index ≤ records → checked_from named left table index ≡ given records
    right_on zero index enough bound = absurd (omega (arith, index_within records))
    right_on (suc left) index enough bound =
        ⊎_elim (λ (last : index ≡ records). let over : length table ≤ index * size = omega (arith, ap (λ (n : ℕ). n * size) last) in ended table (suc left) index over ∙ ap given last)
        (λ (more : index < records).
        let past : suc index * size ≤ records * size = mul-le-mul_right size more in
        opened table left index (omega (arith, next_place index)) ∙ simp (right index more) (right_on left (suc index) (omega arith) more))
        (eq-or-lt_of_le bound)

    pub judged_right : checked_in named table ≡ given records
    judged_right = right_on (suc (length table)) 0 (omega arith) (omega arith)

  -- the width of a record is bytes, as the table is
  pub width_bytes : (table : List ℕ) → ((i : ℕ) → get_or table i 0 < 256) → (index : ℕ) → LastBytes (record_in named table index).width
  unfolding record_in
  width_bytes table bytes index =
      let at = index * size in
      record { b1_below = bytes (at + (named + 13)); b2_below = bytes (at + (named + 14)); b3_below = bytes (at + (named + 15)) }
