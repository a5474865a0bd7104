-- A table whose records have no name, in another form: right as before, with the same characters, and back again. Assumes nothing.
use Prim.Native.Nat.{ℕ, zero, suc, ◌+◌, ◌-◌, ◌*◌, ◌≤◌, ◌<◌}
use mathlib.Core.Path.{◌≡◌, refl, sym, ap, ap₂, ◌∙◌}
use mathlib.Core.Bool.{Bool, true, false, cond, ◌&&◌}
use mathlib.Core.List.{List, [], ◌∷◌, ◌++◌}
use native.Mathlib.Nat.{suc-mul, zero-mul}
use native.Mathlib.Omega.{arith}
use borrow.Author.Tests.{eqb-true, eqb-false, ne_eqb, le-leb, lt-ltb}
use lib.Dec.{eqb}
use lib.ListN.{length, get_or, take, drop, replicate, length-drop, take-append-drop}
use lib.Seq.{drop-drop, take_at, drop_at, get_or-drop}
use Rattle.refusals.specs.Answer.{given}
use Rattle.widths.specs.declared.Metric.{Metric}
use Rattle.widths.specs.AsBytes.{Bytes}
use Rattle.widths.specs.Table.{size_with, record_in, rises_in, right_in, checked_in}
use Rattle.widths.specs.LookUp.{LookUp, found, absent, metric_of, is_for, walk_from, or_else}
use Rattle.widths.proofs.Search.{or_same}
use Rattle.widths.proofs.TableLaws.{table_size, record_inside, fields_right, keys_rise, judged_right}
use Rattle.converting.specs.Converting.{in_form}
use Rattle.converting.proofs.Forms.{record_fits, form_length, front_length, back_length, name_length, front_byte, name_byte, back_byte}
use Rattle.converting.proofs.Alike.{NoName, Alike, no_number, metric_same, for_same, fields_same, keys_same}

-- no record has a name
abbrev pub NoNames : ℕ → List ℕ → ℕ → Type 0
NoNames named table records = (index : ℕ) → index < records → NoName named table index

-- ---- a character is found by no other name

and_false : (a b : Bool) → (a && (b && false)) ≡ false
and_false true true = refl
and_false true false = refl
and_false false b = refl

module _ (named : ℕ) (table : List ℕ) (checksum scale byte : ℕ) where
  -- the walk over so many records from an index on
  abbrev walked : ℕ → ℕ → ℕ → LookUp
  walked left index name = walk_from named left table index checksum scale name byte

  other_name : (name : ℕ) → (name ≡ 0 → ⊥) → (left index : ℕ) → NoNames named table (index + left) → walked left index name ≡ absent
  unfolding walk_from
  other_name name some zero index none = refl
  other_name name some (suc left) index none =
      let r = record_in named table index in
      let number : r.name ≡ 0 = no_number named table index (none index (omega arith)) in
      let not_for : is_for r checksum scale name byte ≡ false =
      ap (λ (t : Bool). eqb r.checksum checksum && (eqb r.scale scale && (t && eqb r.code byte))) (ne_eqb r.name name (λ e. some (sym e ∙ number)))
      ∙ and_false (eqb r.checksum checksum) (eqb r.scale scale) in
      ap (λ (t : Bool). cond t (found (metric_of r)) (walked left (suc index) name)) not_for
      ∙ other_name name some left (suc index) (λ i h. none i (omega arith))

  -- the name that is sought does not matter
  pub any_name_lem : (records name : ℕ) → NoNames named table records → or_else (walked records 0 name) (walked records 0 0) ≡ walked records 0 0
  any_name_lem records name none = by (eqb name 0) refl
    where
      by : (zeros : Bool) → eqb name 0 ≡ zeros → or_else (walked records 0 name) (walked records 0 0) ≡ walked records 0 0
      by true e = ap (λ (n : ℕ). or_else (walked records 0 n) (walked records 0 0)) (eqb-true name 0 e) ∙ or_same (walked records 0 0)
      by false e = ap (λ (l : LookUp). or_else l (walked records 0 0)) (other_name name (eqb-false name 0 e) records 0 (λ i h. none i (omega arith)))

-- ---- in another form

module _ (from to records : ℕ) (table : List ℕ) (none : NoNames from table records) where
  abbrev new : List ℕ
  new = in_form from to records table

  module _ (fits : records * size_with from ≤ length table) where
    alike : (index : ℕ) → index < records → Alike from to table new index
    alike index inside =
        let left = records - suc index in
        let count : index + suc left ≡ records = omega arith in
        record {
          front = front_byte from to records table fits index left count;
          back = back_byte from to records table fits index left count;
          none_before = none index inside;
          none = name_byte from to records table fits index left count;
        }

    -- nor has one in the other form
    pub form_unnamed : NoNames to new records
    form_unnamed index inside = (alike index inside).none

    -- the same characters
    walk_same : (left index checksum scale name byte : ℕ) → index + left ≡ records
        → walk_from to left new index checksum scale name byte ≡ walk_from from left table index checksum scale name byte
    unfolding walk_from
    walk_same zero index checksum scale name byte count = refl
    walk_same (suc left) index checksum scale name byte count =
        let here = alike index (omega arith) in
        ap₂ (λ (is : Bool) (m : Metric). cond is (found m) (walk_from to left new (suc index) checksum scale name byte)) (for_same from to table new index here checksum scale name byte) (metric_same from to table new index here)
        ∙ ap (λ (l : LookUp). cond (is_for (record_in from table index) checksum scale name byte) (found (metric_of (record_in from table index))) l) (walk_same left (suc index) checksum scale name byte (omega arith))

    pub form_walk : (checksum scale name byte : ℕ) → walk_from to records new 0 checksum scale name byte ≡ walk_from from records table 0 checksum scale name byte
    form_walk checksum scale name byte = walk_same records 0 checksum scale name byte (omega arith)

  -- a right table
  module _ (bytes : Bytes table) (judged : checked_in from table ≡ given records) where
    whole : records * size_with from ≤ length table
    whole = omega (arith, table_size from table records judged)

    code_below : (index : ℕ) → index < records → (record_in from table index).code < 256
    unfolding record_in
    code_below index inside = bytes (index * size_with from + (from + 8)) (omega (arith, record_inside from table records judged index inside))

    rises : (index : ℕ) → index < records → rises_in to new index ≡ true
    rises zero inside = refl
    rises (suc index) inside =
        keys_same from to table new index (suc index) (alike whole index (omega arith)) (alike whole (suc index) inside) (code_below index (omega arith)) (code_below (suc index) inside)
        ∙ lt-ltb (record_in from table index).key (record_in from table (suc index)).key (keys_rise from table records judged index (suc index) (omega arith) inside)

    right : (index : ℕ) → index < records → right_in to new index ≡ true
    right index inside =
        let room : index * size_with to + size_with to ≤ length new = record_fits (size_with to) records index (index * size_with to) (length new) (omega (arith, form_length from to records table whole)) inside refl in
        ap₂ ◌&&◌ (le-leb (index * size_with to + size_with to) (length new) room)
        (ap₂ ◌&&◌ (rises index inside) (fields_same from to table new index (alike whole index inside) ∙ fields_right from table records judged index inside))

    pub form_right : checked_in to new ≡ given records
    form_right = judged_right to new records (sym (form_length from to records table whole)) right

-- ---- and back again

-- bytes that are zeros
zeros_are : (count : ℕ) (bytes : List ℕ) → count ≤ length bytes → ((i : ℕ) → i < count → get_or bytes i 0 ≡ 0) → take count bytes ≡ replicate count 0
zeros_are zero bytes h zeros = refl
zeros_are (suc count) [] h zeros = absurd (omega arith)
zeros_are (suc count) (b ∷ bytes) h zeros =
    ap₂ (λ (first : ℕ) (l : List ℕ). first ∷ l) (zeros 0 (omega arith)) (zeros_are count bytes (omega arith) (λ i below. zeros (suc i) (omega arith)))

module _ (from to : ℕ) where
  module _ (table : List ℕ) (whole : size_with from ≤ length table) where
    abbrev front : List ℕ
    front = take 8 table

    abbrev back : List ℕ
    back = take 8 (drop (8 + from) table)

    -- a table that begins with a record without a name
    opened : ((i : ℕ) → i < from → get_or table (8 + i) 0 ≡ 0) → front ++ (replicate from 0 ++ (back ++ drop (size_with from) table)) ≡ table
    opened zeros =
        let name : take from (drop 8 table) ≡ replicate from 0 = zeros_are from (drop 8 table) (omega (arith, length-drop 8 table)) (λ i h. get_or-drop 8 table i 0 ∙ zeros i h) in
        let end : 8 + from + 8 ≡ size_with from = omega arith in
        let behind : back ++ drop (size_with from) table ≡ drop (8 + from) table =
        ap (λ (l : List ℕ). back ++ l) (sym (drop-drop 8 (8 + from) table ∙ ap (λ (n : ℕ). drop n table) end)) ∙ take-append-drop 8 (drop (8 + from) table) in
        let rest : replicate from 0 ++ (back ++ drop (size_with from) table) ≡ drop 8 table =
        ap₂ (λ (x y : List ℕ). x ++ y) (sym name) (behind ∙ sym (drop-drop from 8 table)) ∙ take-append-drop from (drop 8 table) in
        ap (λ (l : List ℕ). front ++ l) rest ∙ take-append-drop 8 table

    -- its bytes behind the name, and behind the record, in the other form
    module _ (more : List ℕ) where
      abbrev made : List ℕ
      made = front ++ (replicate to 0 ++ (back ++ more))

      made_front : take 8 made ≡ front
      made_front = take_at front (replicate to 0 ++ (back ++ more)) 8 (front_length from to table whole)

      made_behind : drop (8 + to) made ≡ back ++ more
      made_behind =
          sym (drop-drop to 8 made)
          ∙ ap (drop to) (drop_at front (replicate to 0 ++ (back ++ more)) 8 (front_length from to table whole))
          ∙ drop_at (replicate to 0) (back ++ more) to (name_length from to)

      made_back : take 8 (drop (8 + to) made) ≡ back
      made_back = ap (take 8) made_behind ∙ take_at back more 8 (back_length from to table whole)

      made_rest : drop (size_with to) made ≡ more
      made_rest =
          let end : size_with to ≡ 8 + to + 8 = omega arith in
          ap (λ (n : ℕ). drop n made) end ∙ sym (drop-drop 8 (8 + to) made) ∙ ap (drop 8) made_behind ∙ drop_at back more 8 (back_length from to table whole)

  pub form_again : (records : ℕ) (table : List ℕ) → NoNames from table records → records * size_with from ≡ length table → in_form to from records (in_form from to records table) ≡ table
  form_again zero [] none size = refl
  form_again zero (b ∷ table) none size = absurd (omega (arith, zero-mul (size_with from)))
  form_again (suc records) table none size =
      let next : suc records * size_with from ≡ records * size_with from + size_with from = suc-mul records (size_with from) in
      let whole : size_with from ≤ length table = omega arith in
      let rest = drop (size_with from) table in
      let more = in_form from to records rest in
      let here : (i : ℕ) → i < from → get_or table (8 + i) 0 ≡ 0 =
      λ i h. let place : 8 + i ≡ 0 * size_with from + (8 + i) = omega (arith, zero-mul (size_with from)) in ap (λ (n : ℕ). get_or table n 0) place ∙ none 0 (omega arith) i h in
      let later : NoNames from rest records =
      λ index inside i h.
      let place : size_with from + (index * size_with from + (8 + i)) ≡ suc index * size_with from + (8 + i) = omega (arith, suc-mul index (size_with from)) in
      get_or-drop (size_with from) table (index * size_with from + (8 + i)) 0 ∙ ap (λ (n : ℕ). get_or table n 0) place ∙ none (suc index) (omega arith) i h in
      ap₂ (λ (x y : List ℕ). x ++ (replicate from 0 ++ y)) (made_front table whole more)
      (ap₂ (λ (x y : List ℕ). x ++ y) (made_back table whole more)
      (ap (in_form to from records) (made_rest table whole more) ∙ form_again records rest later (omega (arith, length-drop (size_with from) table))))
      ∙ opened table whole here
