-- The search for the first record that has a name, record by record. Assumes nothing.
use Prim.Native.Nat.{ℕ, zero, suc, ◌+◌, ◌-◌, ◌*◌, ◌≤◌, ◌<◌}
use mathlib.Core.Path.{◌≡◌, refl, sym, ap, subst, ◌∙◌}
use mathlib.Core.Bool.{Bool, true, false, not}
use mathlib.Core.List.{List}
use mathlib.Core.Logic.{⊎_elim}
use native.Mathlib.Nat.{eq-or-lt_of_le}
use native.Mathlib.Numerals.{add-one}
use native.Mathlib.Omega.{arith}
use borrow.Author.Tests.{eqb-true, eqb-false, eq-eqb, ne_eqb, not-true, not-false}
use lib.Dec.{eqb}
use Rattle.refusals.specs.Numbers.{named_record}
use Rattle.refusals.specs.Answer.{refused, given, refuse_if}
use Rattle.refusals.proofs.Answer.{given_not_refused, given_next, given_same}
use Rattle.widths.specs.Table.{width_record_size, record_of}
use Rattle.converting.specs.Converting.{unnamed_from}
use Rattle.converting.specs.Named.{Unnamed, FirstNamed}

module _ (table : List ℕ) where
  -- a record has a name
  abbrev pub named : ℕ → Bool
  named index = not (eqb (record_of table index).name 0)

  -- ---- the loop

  module _ (records index : ℕ) where
    -- a record that is reached has a name, or the next one is judged
    opened : index < records → unnamed_from (records - index) table index ≡ refuse_if (named index) named_record (index * width_record_size) (unnamed_from (records - (index + 1)) table (index + 1))
    unfolding unnamed_from
    opened h =
        let more : records - index ≡ suc (records - (index + 1)) = omega arith in
        ap (λ (n : ℕ). unnamed_from n table index) more
        ∙ ap (λ (n : ℕ). refuse_if (named index) named_record (index * width_record_size) (unnamed_from (records - (index + 1)) table n)) (sym (add-one index))

    pub unnamed_stops : index < records → named index ≡ true → unnamed_from (records - index) table index ≡ refused named_record (index * width_record_size)
    unnamed_stops h e = opened h ∙ ap (λ (t : Bool). refuse_if t named_record (index * width_record_size) (unnamed_from (records - (index + 1)) table (index + 1))) e

    pub unnamed_turns : index < records → named index ≡ false → unnamed_from (records - index) table index ≡ unnamed_from (records - (index + 1)) table (index + 1)
    unnamed_turns h e = opened h ∙ ap (λ (t : Bool). refuse_if t named_record (index * width_record_size) (unnamed_from (records - (index + 1)) table (index + 1))) e

    pub unnamed_ends : records ≤ index → unnamed_from (records - index) table index ≡ given index
    unfolding unnamed_from
    unnamed_ends h = let none : records - index ≡ 0 = omega arith in ap (λ (n : ℕ). unnamed_from n table index) none

  -- ---- what it answers

  -- a record without a name behind others without one
  one_more : (index : ℕ) → Unnamed table index → (record_of table index).name ≡ 0 → Unnamed table (suc index)
  one_more index before here j h =
      let near : j ≤ index = omega arith in
      ⊎_elim (λ (same : j ≡ index). subst (λ (n : ℕ). (record_of table n).name ≡ 0) (sym same) here) (λ (under : j < index). before j under) (eq-or-lt_of_le near)

  no_name : (index : ℕ) → named index ≡ false → (record_of table index).name ≡ 0
  no_name index e = eqb-true (record_of table index).name 0 (not-false (eqb (record_of table index).name 0) e)

  -- all records, and that none of them has a name
  pub unnamed_all : (left index records : ℕ) → Unnamed table index → unnamed_from left table index ≡ given records → (index + left ≡ records) × Unnamed table records
  unfolding unnamed_from
  unnamed_all zero index records before e = let last : index ≡ records = given_same index records e in (omega arith, subst (Unnamed table) last before)
  unnamed_all (suc left) index records before e =
      let (here, rest) = given_next (named index) named_record (index * width_record_size) (unnamed_from left table (suc index)) records e in
      let (count, none) = unnamed_all left (suc index) records (one_more index before (no_name index here)) rest in
      (omega arith, none)

  -- and where none has one
  pub unnamed_given : (left index records : ℕ) → index + left ≡ records → Unnamed table records → unnamed_from left table index ≡ given records
  unfolding unnamed_from
  unnamed_given zero index records count none = let last : index ≡ records = omega arith in ap given last
  unnamed_given (suc left) index records count none =
      ap (λ (t : Bool). refuse_if (not t) named_record (index * width_record_size) (unnamed_from left table (suc index))) (eq-eqb (record_of table index).name 0 (none index (omega arith)))
      ∙ unnamed_given left (suc index) records (omega arith) none

  -- the first record that has a name
  pub unnamed_refused : (left index records number place : ℕ) → index + left ≡ records → Unnamed table index → unnamed_from left table index ≡ refused number place
      → (number ≡ named_record) × FirstNamed table records place
  unfolding unnamed_from
  unnamed_refused zero index records number place count before e = absurd (given_not_refused index number place e)
  unnamed_refused (suc left) index records number place count before e =
      by (named index) refl e (λ here rest. unnamed_refused left (suc index) records number place (omega arith) (one_more index before (no_name index here)) rest)
    where
      by : (t : Bool) → named index ≡ t → refuse_if t named_record (index * width_record_size) (unnamed_from left table (suc index)) ≡ refused number place
          → (named index ≡ false → unnamed_from left table (suc index) ≡ refused number place → (number ≡ named_record) × FirstNamed table records place)
          → (number ≡ named_record) × FirstNamed table records place
      by true here e onward =
          let number_is : number ≡ named_record = cc in
          let place_is : place ≡ index * width_record_size = cc in (
            number_is,
            record {
              index = index;
              among = omega arith;
              place_is = place_is;
              has_name = eqb-false (record_of table index).name 0 (not-true (eqb (record_of table index).name 0) here);
              none_before = before;
            },
          )
      by false here e onward = onward here e

  -- and where there is one
  pub unnamed_found : (left index records place : ℕ) → index + left ≡ records → (f : FirstNamed table records place) → index ≤ f.index → unnamed_from left table index ≡ refused named_record place
  unfolding unnamed_from
  unnamed_found zero index records place count f low = absurd (omega (arith, f.among))
  unnamed_found (suc left) index records place count f low =
      ⊎_elim (λ (same : index ≡ f.index).
      ap (λ (t : Bool). refuse_if (not t) named_record (index * width_record_size) (unnamed_from left table (suc index))) (ne_eqb (record_of table index).name 0 (λ e. f.has_name (subst (λ (n : ℕ). (record_of table n).name ≡ 0) same e)))
      ∙ ap (refused named_record) (ap (λ (n : ℕ). n * width_record_size) same ∙ sym f.place_is))
      (λ (under : index < f.index).
      ap (λ (t : Bool). refuse_if (not t) named_record (index * width_record_size) (unnamed_from left table (suc index))) (eq-eqb (record_of table index).name 0 (f.none_before index under))
      ∙ unnamed_found left (suc index) records place (omega arith) f under)
      (eq-or-lt_of_le low)
