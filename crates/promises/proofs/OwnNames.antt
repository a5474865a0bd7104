-- No splicing: what is found for a font's character is the font's own record if the table has it, whatever other fonts of its check sum and scale are there, and never a
-- record that has another name. Assumes nothing.
use Prim.Native.Nat.{ℕ, zero, suc, ◌+◌, ◌-◌, ◌≤◌, ◌<◌}
use mathlib.Core.Path.{◌≡◌, refl, sym, ap, ap₂, subst, ◌∙◌}
use mathlib.Core.Bool.{Bool, true, false, cond, not, ◌&&◌, ◌||◌, and-eq-true_iff}
use mathlib.Core.Logic.{◌⊎◌, inl, inr}
use mathlib.Core.List.{List, [], ◌∷◌, ◌++◌}
use native.Mathlib.Omega.{arith}
use lib.Dec.{leb, eqb}
use lib.IntN.{ℤ}
use lib.ListN.{length, replicate, length-replicate, get_or-replicate}
use borrow.Author.Tests.{leb-true, eqb-true, not-true}
use Rattle.refusals.specs.Answer.{given}
use Rattle.numbers.specs.Bytes.{unsigned_at}
use Rattle.names.specs.Names.{name_size, name_number, has_zero, fits_record, sought_name}
use Rattle.names.proofs.NameLaws.{number_at, padded, padded_length, without_zero}
use Rattle.widths.specs.declared.Metric.{Metric}
use Rattle.widths.specs.AsBytes.{Bytes}
use Rattle.widths.specs.Table.{record_of, checked_table}
use Rattle.widths.specs.LookUp.{LookUp, found, absent, metric_of, code_byte, is_for, walk_from, walk, or_else}
use Rattle.widths.proofs.AsBytes.{bytes_same}
use Rattle.widths.proofs.Search.{own_found}
use Rattle.commands.specs.Commands.{Command}
use Rattle.commands.specs.Parameters.{font_name}
use Rattle.list.specs.Past.{body, stands}
use Rattle.state.specs.declared.Font.{Font}
use Rattle.turns.specs.Placing.{font_by, look_in}
use Rattle.promises.specs.OldTables.{IsOwn, IsOfAny}

-- what a walk finds is a record that is for the character
walk_hit : (table : List ℕ) (checksum scale name byte : ℕ) (m : Metric) (left index : ℕ) → walk_from name_size left table index checksum scale name byte ≡ found m
    → (at : ℕ) × (at < index + left) × (m ≡ metric_of (record_of table at)) × (is_for (record_of table at) checksum scale name byte ≡ true)
unfolding walk_from
walk_hit table checksum scale name byte m zero index e = let z : ◌≡◌ {A = ℕ} 0 1 = cc in absurd (omega arith)
walk_hit table checksum scale name byte m (suc left) index e = by (is_for (record_of table index) checksum scale name byte) refl e (walk_hit table checksum scale name byte m left (suc index))
  where
    by : (here : Bool) → is_for (record_of table index) checksum scale name byte ≡ here
        → cond here (found (metric_of (record_of table index))) (walk_from name_size left table (suc index) checksum scale name byte) ≡ found m
        → (walk_from name_size left table (suc index) checksum scale name byte ≡ found m
        → (at : ℕ) × (at < suc index + left) × (m ≡ metric_of (record_of table at)) × (is_for (record_of table at) checksum scale name byte ≡ true))
        → (at : ℕ) × (at < index + suc left) × (m ≡ metric_of (record_of table at)) × (is_for (record_of table at) checksum scale name byte ≡ true)
    by true is f later = (index, omega arith, cc, is)
    by false is f later = let hit = later f in (hit.0, omega (arith, hit.1), hit.2, hit.3)

module _ (table : List ℕ) (records : ℕ) (judged : checked_table table ≡ given records) where
  -- a font finds its own record where there is one, before any of sixteen zeros
  pub finds_its_own : (font : Font) (code : ℤ) (index : ℕ) → index < records → IsOwn table index font code → look_in table records font code ≡ found (metric_of (record_of table index))
  finds_its_own font code index inside own =
      ap (λ (l : LookUp). or_else l (walk records table font.checksum font.scale 0 (code_byte code)))
      (own_found table records judged font.checksum font.scale (name_number font.name) (code_byte code) index inside own)

  -- what is found is a record of the table for this check sum, scale and code, and its name is the one that the font seeks or sixteen zeros: never another font's
  pub none_of_another : (font : Font) (code : ℤ) (m : Metric) → look_in table records font code ≡ found m
      → (index : ℕ) × (index < records) × (m ≡ metric_of (record_of table index)) × (IsOwn table index font code ⊎ IsOfAny table index font code)
  none_of_another font code m is = by (sought (name_number font.name)) refl is
    where
      sought : ℕ → LookUp
      sought name = walk records table font.checksum font.scale name (code_byte code)

      by : (own : LookUp) → walk records table font.checksum font.scale (name_number font.name) (code_byte code) ≡ own
          → or_else own (walk records table font.checksum font.scale 0 (code_byte code)) ≡ found m
          → (index : ℕ) × (index < records) × (m ≡ metric_of (record_of table index)) × (IsOwn table index font code ⊎ IsOfAny table index font code)
      by (found n) e f =
          let hit = walk_hit table font.checksum font.scale (name_number font.name) (code_byte code) m records 0 (e ∙ f) in
          (hit.0, omega (arith, hit.1), hit.2, inl hit.3)
      by absent e f =
          let hit = walk_hit table font.checksum font.scale 0 (code_byte code) m records 0 f in
          (hit.0, omega (arith, hit.1), hit.2, inr hit.3)

  -- two fonts that seek different names, of one check sum and scale or not, each with a record of its own for a character: each finds its own, and these are two records
  pub never_spliced : (one other : Font) (code : ℤ) (i j : ℕ) → i < records → j < records → IsOwn table i one code → IsOwn table j other code
      → (name_number one.name ≡ name_number other.name → ⊥)
      → (look_in table records one code ≡ found (metric_of (record_of table i))) × (look_in table records other code ≡ found (metric_of (record_of table j))) × (i ≡ j → ⊥)
  never_spliced one other code i j i-in j-in own own' differ = (
    finds_its_own one code i i-in own,
    finds_its_own other code j j-in own',
    λ same. differ (sym (called one i own) ∙ ap (λ (n : ℕ). (record_of table n).name) same ∙ called other j own'),
  )
    where
      -- a font's own record has the name that the font seeks
      called : (font : Font) (index : ℕ) → IsOwn table index font code → (record_of table index).name ≡ name_number font.name
      called font index is =
          let r = record_of table index in
          let name = name_number font.name in
          let rest = eqb r.name name && eqb r.code (code_byte code) in
          let outer = (and-eq-true_iff (eqb r.checksum font.checksum) (eqb r.scale font.scale && rest)).0 is in
          let middle = (and-eq-true_iff (eqb r.scale font.scale) rest).0 outer.1 in
          eqb-true r.name name ((and-eq-true_iff (eqb r.name name) (eqb r.code (code_byte code))).0 middle.1).0

-- ---- different names are sought as different numbers

-- a byte of a name is not the zero behind another name
no_zero_first : (b : ℕ) (bytes : List ℕ) → has_zero (b ∷ bytes) ≡ false → b ≡ 0 → ⊥
no_zero_first b bytes none e = let z : ◌≡◌ {A = Bool} true false = sym (ap (λ (n : ℕ). eqb n 0 || has_zero bytes) e) ∙ none in absurd (let y : ◌≡◌ {A = ℕ} 0 1 = cc in omega arith)

later_zero : (b : ℕ) (bytes : List ℕ) → has_zero (b ∷ bytes) ≡ false → has_zero bytes ≡ false
later_zero b bytes none = by (eqb b 0) none
  where
    by : (t : Bool) → (t || has_zero bytes) ≡ false → has_zero bytes ≡ false
    by true e = absurd (let y : ◌≡◌ {A = ℕ} 0 1 = cc in omega arith)
    by false e = e

abbrev first_of : List ℕ → ℕ
first_of [] = 0
first_of (b ∷ bytes) = b

abbrev rest_of : List ℕ → List ℕ
rest_of [] = []
rest_of (b ∷ bytes) = bytes

-- two names with as many zeros behind them as they like that are the same bytes are the same
same_name : (xs ys : List ℕ) (m n : ℕ) → has_zero xs ≡ false → has_zero ys ≡ false → xs ++ replicate m 0 ≡ ys ++ replicate n 0 → xs ≡ ys
same_name [] [] m n p q e = refl
same_name [] (y ∷ ys) zero n p q e = absurd (omega (arith, ap length e))
same_name [] (y ∷ ys) (suc m) n p q e = absurd (no_zero_first y ys q (sym (ap first_of e)))
same_name (x ∷ xs) [] m zero p q e = absurd (omega (arith, ap length e))
same_name (x ∷ xs) [] m (suc n) p q e = absurd (no_zero_first x xs p (ap first_of e))
same_name (x ∷ xs) (y ∷ ys) m n p q e =
    ap₂ (λ (b : ℕ) (bytes : List ℕ). b ∷ bytes) (ap first_of e) (same_name xs ys m n (later_zero x xs p) (later_zero y ys q) (ap rest_of e))

-- zeros are bytes
zeros_bytes : (count : ℕ) → Bytes (replicate count 0)
zeros_bytes count i h = subst (λ (n : ℕ). n < 256) (sym (get_or-replicate count i 0 0 (omega (arith, length-replicate {A = ℕ} count 0)))) (omega arith)

-- and so is what has two rows of them
both_bytes : (xs ys : List ℕ) → Bytes xs → Bytes ys → Bytes (xs ++ ys)
both_bytes [] ys p q i h = q i h
both_bytes (x ∷ xs) ys p q zero h = p zero (omega arith)
both_bytes (x ∷ xs) ys p q (suc i) h = both_bytes xs ys (λ j l. p (suc j) (omega arith)) q i (omega arith)

module _ (name : List ℕ) (fits : fits_record name ≡ true) where
  short : length name ≤ 16
  short = leb-true (length name) 16 ((and-eq-true_iff (leb (length name) name_size) (not (has_zero name))).0 fits).0

  no_zero : has_zero name ≡ false
  no_zero = not-true (has_zero name) ((and-eq-true_iff (leb (length name) name_size) (not (has_zero name))).0 fits).1

  sought_number : name_number (sought_name name) ≡ unsigned_at (padded name short) 0 16
  sought_number = sym (ap name_number (without_zero name short no_zero)) ∙ number_at (padded name short) 0

  padded_bytes : Bytes name → Bytes (padded name short)
  padded_bytes bytes = both_bytes name (replicate (16 - length name) 0) bytes (zeros_bytes (16 - length name))

-- names that records can have are sought as one number only if they are one name
pub different_names : (one other : List ℕ) → fits_record one ≡ true → fits_record other ≡ true → Bytes one → Bytes other
    → name_number (sought_name one) ≡ name_number (sought_name other) → one ≡ other
different_names one other p q one-bytes other-bytes e =
    same_name one other (16 - length one) (16 - length other) (no_zero one p) (no_zero other q)
    (bytes_same (padded one (short one p)) (padded other (short other q)) 16 (padded_length one (short one p)) (padded_length other (short other q)) (padded_bytes one p one-bytes) (padded_bytes other q other-bytes)
    (sym (sought_number one p) ∙ e ∙ sought_number other q))

-- a name that a record can have is not sought as sixteen zeros, but for the empty one
pub own_is_not_any : (name : List ℕ) → fits_record name ≡ true → Bytes name → name_number (sought_name name) ≡ name_number (sought_name []) → name ≡ []
own_is_not_any name fits bytes e = different_names name [] fits refl bytes (λ i h. absurd (omega arith)) e

-- two definitions whose names are different and can be in records: whatever their check sums and scales, each font finds its own record for a character where both have one, and these are two
pub definitions_apart : (table : List ℕ) (records : ℕ) → checked_table table ≡ given records → (one other : ℤ) (at at' : ℕ) (c d : Command)
    → fits_record (font_name (body c)) ≡ true → fits_record (font_name (body d)) ≡ true → Bytes (font_name (body c)) → Bytes (font_name (body d))
    → (font_name (body c) ≡ font_name (body d) → ⊥)
    → (code : ℤ) (i j : ℕ) → i < records → j < records → IsOwn table i (font_by one (stands at c)) code → IsOwn table j (font_by other (stands at' d)) code
    → (look_in table records (font_by one (stands at c)) code ≡ found (metric_of (record_of table i)))
    × (look_in table records (font_by other (stands at' d)) code ≡ found (metric_of (record_of table j))) × (i ≡ j → ⊥)
definitions_apart table records judged one other at at' c d c-fits d-fits c-bytes d-bytes differ code i j i-in j-in own own' =
    never_spliced table records judged (font_by one (stands at c)) (font_by other (stands at' d)) code i j i-in j-in own own'
    (λ same. differ (different_names (font_name (body c)) (font_name (body d)) c-fits d-fits c-bytes d-bytes same))
