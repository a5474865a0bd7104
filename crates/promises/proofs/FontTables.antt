-- The table made of a font is one that the table check finds right, and each of its records reads as the entry it was made of. Assumes nothing.
use Prim.Native.Nat.{ℕ, zero, suc, ◌+◌, ◌*◌, ◌/◌, ◌%◌, ◌^◌, ◌≤◌, ◌<◌}
use mathlib.Core.Path.{◌≡◌, refl, sym, ap, ap₂, subst, ◌∙◌}
use mathlib.Core.Bool.{Bool, true, false, ◌||◌, and-eq-true_iff}
use mathlib.Core.List.{List, [], ◌∷◌, ◌++◌, append_assoc, append-nil}
use native.Mathlib.Omega.{arith}
use lib.Dec.{ltb, leb, eqb}
use lib.ListN.{length, get_or, take, drop, replicate, length-append}
use lib.Seq.{drop_at, drop-drop}
use lib.IntN.{ℤ, pos, negsuc}
use lib.Signed.{le_z}
use borrow.Author.Tests.{lt-ltb, le-leb, lt-leb, leb-true, eqb-true}
use Rattle.refusals.specs.Answer.{given}
use Rattle.numbers.specs.Bytes.{unsigned_at, bytes_of, signed_bytes_of}
use Rattle.numbers.specs.Signs.{from_twos}
use Rattle.numbers.specs.Parts.{up, dn}
use Rattle.numbers.specs.Sizes.{lawful_size}
use Rattle.names.specs.Names.{name_size}
use Rattle.numbers.proofs.Bytes.{unsigned_one, unsigned_drop, read_back, read_signed}
use Rattle.numbers.proofs.Signed.{le_yes, one_part}
use Rattle.scaling.specs.Scaling.{fix_word, lawful_first}
use Rattle.packed.specs.Rules.{lawful_escapement}
use Rattle.scaling.specs.declared.FixWord.{FixWord}
use Rattle.widths.proofs.Keys.{character_key, key_joined}
use Rattle.widths.specs.Table.{width_record_size, record_at, record_in, record_of, rises_in, lawful_fields, whole_in, right_in, checked_from, checked_table}
use Rattle.widths.specs.Entries.{Entry, entry_bytes, table_bytes}
use Rattle.packed.proofs.Written.{table_length, table_append}
use Rattle.promises.specs.Fonts.{Rising, more, Fits, Reads}

-- ---- a number behind some bytes

skip : (a b : List ℕ) (at count : ℕ) → unsigned_at (a ++ b) (length a + at) count ≡ unsigned_at b at count
skip a b at count = sym (unsigned_drop (a ++ b) (length a) at count) ∙ ap (λ (l : List ℕ). unsigned_at l at count) (drop_at a b (length a) refl)

-- ---- the fields of an entry's bytes, whatever follows

module _ (e : Entry) (more_bytes : List ℕ) where
  abbrev table : List ℕ
  table = entry_bytes e ++ more_bytes

  sum : unsigned_at table 0 4 ≡ unsigned_at (bytes_of 4 e.checksum) 0 4
  unfolding entry_bytes bytes_of unsigned_at
  sum = refl

  scale : unsigned_at table 4 4 ≡ unsigned_at (bytes_of 4 e.scale) 0 4
  unfolding entry_bytes bytes_of unsigned_at
  scale = refl

  name : unsigned_at table 8 name_size ≡ 0
  unfolding entry_bytes bytes_of unsigned_at
  name = refl

  name_bytes : take name_size (drop 8 table) ≡ replicate name_size 0
  unfolding entry_bytes bytes_of
  name_bytes = refl

  code : get_or table 24 0 ≡ e.code % 256
  unfolding entry_bytes bytes_of
  code = refl

  zero_byte : get_or table 25 0 ≡ 0
  unfolding entry_bytes bytes_of
  zero_byte = refl

  escapement : unsigned_at table 26 2 ≡ unsigned_at (signed_bytes_of 2 e.escapement) 0 2
  unfolding entry_bytes bytes_of unsigned_at
  escapement = refl

  b0 : get_or table 28 0 ≡ e.width / 256 / 256 / 256 % 256
  unfolding entry_bytes bytes_of
  b0 = refl

  b1 : get_or table 29 0 ≡ e.width / 256 / 256 % 256
  unfolding entry_bytes bytes_of
  b1 = refl

  b2 : get_or table 30 0 ≡ e.width / 256 % 256
  unfolding entry_bytes bytes_of
  b2 = refl

  b3 : get_or table 31 0 ≡ e.width % 256
  unfolding entry_bytes bytes_of
  b3 = refl

-- ---- the same behind a front

module _ (front : List ℕ) (e : Entry) (back : List ℕ) where
  abbrev whole : List ℕ
  whole = front ++ (entry_bytes e ++ back)

  byte : (i : ℕ) → get_or (front ++ (entry_bytes e ++ back)) (length front + i) 0 ≡ get_or (entry_bytes e ++ back) i 0
  byte i = sym (unsigned_one whole (length front + i)) ∙ skip front (entry_bytes e ++ back) i 1 ∙ unsigned_one (entry_bytes e ++ back) i

  bits : (escapement : ℤ) → lawful_escapement escapement ≡ true → (up escapement + up escapement < 65536) × (dn escapement + dn escapement ≤ 65536)
  bits z h =
      let both = (and-eq-true_iff (le_z (negsuc 32767) z) (le_z z (pos 32767))).0 h in
      let low = le_yes (negsuc 32767) z both.0 in
      let high = le_yes z (pos 32767) both.1 in
      (omega (arith, low, high, one_part z), omega (arith, low, high, one_part z))

  first_small : (n : ℕ) → lawful_first n ≡ true → n < 256
  first_small n h = go (eqb n 0) (eqb n 255) refl refl h
    where
      go : (a b : Bool) → eqb n 0 ≡ a → eqb n 255 ≡ b → (a || b) ≡ true → n < 256
      go true b p q h = omega (arith, eqb-true n 0 p)
      go false true p q h = omega (arith, eqb-true n 255 q)
      go false false p q h = absurd (let z : ◌≡◌ {A = ℕ} 0 1 = cc in omega arith)

  size_small : (n : ℕ) → lawful_size n ≡ true → n < 2 ^ 32
  size_small n h = let both = (and-eq-true_iff (leb 1 n) (leb n 134217727)).0 h in omega (arith, leb-true n 134217727 both.1)

  pub reads : Fits e → Reads (record_at (front ++ (entry_bytes e ++ back)) (length front)) e
  reads fits =
      let start : length front ≡ length front + 0 = omega arith in
      let near = bits e.escapement fits.escapement_right in
      let below = first_small (e.width / 16777216) fits.first_right in
      let high : e.width / 256 / 256 / 256 % 256 ≡ e.width / 16777216 = omega arith in
      let middle : e.width / 256 / 256 % 256 ≡ e.width / 65536 % 256 = omega arith in
      let same_code : e.code % 256 ≡ e.code = omega (arith, fits.code_is_byte) in
      record {
        sum_is = ap (λ (n : ℕ). unsigned_at whole n 4) start ∙ skip front (entry_bytes e ++ back) 0 4 ∙ sum e back;
        scale_is = skip front (entry_bytes e ++ back) 4 4 ∙ scale e back ∙ read_back 4 e.scale (size_small e.scale fits.scale_right);
        name_is = skip front (entry_bytes e ++ back) 8 name_size ∙ name e back;
        name_zeros = ap (take name_size) (sym (drop-drop 8 (length front) whole) ∙ ap (drop 8) (drop_at front (entry_bytes e ++ back) (length front) refl)) ∙ name_bytes e back;
        code_is = byte 24 ∙ code e back ∙ same_code;
        zero_is = byte 25 ∙ zero_byte e back;
        escapement_is = ap (from_twos (256 ^ 2)) (skip front (entry_bytes e ++ back) 26 2 ∙ escapement e back) ∙ read_signed 2 e.escapement near.0 near.1;
        width_is =
            ap₂ (λ (x y : ℕ). fix_word x y (get_or whole (length front + 30) 0) (get_or whole (length front + 31) 0)) (byte 28 ∙ b0 e back ∙ high) (byte 29 ∙ b1 e back ∙ middle)
            ∙ ap₂ (λ (x y : ℕ). fix_word (e.width / 16777216) (e.width / 65536 % 256) x y) (byte 30 ∙ b2 e back) (byte 31 ∙ b3 e back);
      }

-- ---- in a table

-- the bytes before an entry, and behind it
in_table : (front : List Entry) (e : Entry) (back : List Entry) → table_bytes (front ++ (e ∷ back)) ≡ table_bytes front ++ (entry_bytes e ++ table_bytes back)
in_table front e back = table_append front (e ∷ back)

pub record_reads : (front : List Entry) (e : Entry) (back : List Entry) → Fits e → Reads (record_of (table_bytes (front ++ (e ∷ back))) (length front)) e
unfolding record_in
record_reads front e back fits =
    let at : length front * width_record_size ≡ length (table_bytes front) = omega (arith, table_length front) in
    rw (in_table front e back, at) (reads (table_bytes front) e (table_bytes back) fits)

-- a record's key by what it reads as
key_reads : (table : List ℕ) (index : ℕ) (e : Entry) → Reads (record_of table index) e
    → (record_of table index).key ≡ character_key (unsigned_at (bytes_of 4 e.checksum) 0 4) e.scale 0 e.code
unfolding record_in
key_reads table index e r =
    let here = record_at table (index * width_record_size) in
    key_joined table (index * width_record_size)
    ∙ ap₂ (λ (c s : ℕ). character_key c s here.name here.code) r.sum_is r.scale_is
    ∙ ap₂ (character_key (unsigned_at (bytes_of 4 e.checksum) 0 4) e.scale) r.name_is r.code_is

-- of two keys that differ in the code alone, that of the lower code is the lower
by_code : (block low high a b : ℕ) → a ≡ block * 256 + low → b ≡ block * 256 + high → low < high → ltb a b ≡ true
by_code block low high a b a-is b-is h = lt-ltb a b (omega arith)

-- entries of one font at one scale, all of which fit
pub data Alike (checksum scale : ℕ) : List Entry → Type 0 where
  no_entry : Alike checksum scale []
  an_entry : (e : Entry) {entries : List Entry} → e.checksum ≡ checksum → e.scale ≡ scale → Fits e → Alike checksum scale entries → Alike checksum scale (e ∷ entries)

-- what stands before the next entry: nothing, or as the last one an entry of a lower code
data Before (checksum scale least : ℕ) : List Entry → Type 0 where
  nothing : Before checksum scale least []
  last : (front : List Entry) (d : Entry) → d.checksum ≡ checksum → d.scale ≡ scale → Fits d → d.code < least → Before checksum scale least (front ++ (d ∷ []))

module _ (checksum scale : ℕ) (e : Entry) (sum_is : e.checksum ≡ checksum) (scale_is : e.scale ≡ scale) (fits : Fits e) (back : List Entry) where
  own_fields : (front : List Entry) → lawful_fields (record_of (table_bytes (front ++ (e ∷ back))) (length front)) ≡ true
  own_fields front =
      let r = record_reads front e back fits in
      let first = ap (λ (w : FixWord). w.b0) r.width_is in
      simp (r.scale_is, r.name_zeros, r.zero_is, first, fits.scale_right, fits.first_right)

  whole_record : (front : List Entry) → whole_in name_size (table_bytes (front ++ (e ∷ back))) (length front) ≡ true
  whole_record front =
      le-leb (length front * width_record_size + width_record_size) (length (table_bytes (front ++ (e ∷ back)))) (omega (arith, table_length (front ++ (e ∷ back)), length-append front (e ∷ back)))

  rises_here : (least : ℕ) (front : List Entry) → least ≤ e.code → Before checksum scale least front → rises_in name_size (table_bytes (front ++ (e ∷ back))) (length front) ≡ true
  rises_here least front low nothing = refl
  rises_here least front low (last init d d-sum d-scale d-fits below) =
      let table = table_bytes ((init ++ (d ∷ [])) ++ (e ∷ back)) in
      let count : length (init ++ (d ∷ [])) ≡ suc (length init) = omega (arith, length-append init (d ∷ [])) in
      let shifted : table_bytes (init ++ (d ∷ (e ∷ back))) ≡ table = ap table_bytes (sym (append_assoc init (d ∷ []) (e ∷ back))) in
      let X : ℕ = unsigned_at (bytes_of 4 checksum) 0 4 in
      let before : Reads (record_of table (length init)) d = subst (λ (l : List ℕ). Reads (record_of l (length init)) d) shifted (record_reads init d (e ∷ back) d-fits) in
      let here : Reads (record_of table (suc (length init))) e = subst (λ (n : ℕ). Reads (record_of table n) e) count (record_reads (init ++ (d ∷ [])) e back fits) in
      let lower : d.code < e.code = omega arith in
      let low_key : (record_of table (length init)).key ≡ character_key X scale 0 d.code =
      key_reads table (length init) d before ∙ ap₂ (λ (c s : ℕ). character_key (unsigned_at (bytes_of 4 c) 0 4) s 0 d.code) d-sum d-scale in
      let high-key : (record_of table (suc (length init))).key ≡ character_key X scale 0 e.code =
      key_reads table (suc (length init)) e here ∙ ap₂ (λ (c s : ℕ). character_key (unsigned_at (bytes_of 4 c) 0 4) s 0 e.code) sum_is scale_is in
      rw count (by_code ((X * 2 ^ 32 + scale) * 2 ^ 128 + 0) d.code e.code (record_of table (length init)).key (record_of table (suc (length init))).key low_key high-key lower)

  right_record : (least : ℕ) (front : List Entry) → least ≤ e.code → Before checksum scale least front → right_in name_size (table_bytes (front ++ (e ∷ back))) (length front) ≡ true
  right_record least front low before = simp (whole_record front, rises_here least front low before, own_fields front)

-- ---- the check

checked_end : (left : ℕ) (entries : List Entry) → checked_from name_size left (table_bytes entries) (length entries) ≡ given (length entries)
unfolding checked_from
checked_end zero entries = refl
checked_end (suc left) entries = simp (le-leb (length (table_bytes entries)) (length entries * width_record_size) (omega (arith, table_length entries)))

checked_step : (left : ℕ) (table : List ℕ) (index : ℕ) → index * width_record_size < length table → right_in name_size table index ≡ true
    → checked_from name_size (suc left) table index ≡ checked_from name_size left table (suc index)
unfolding checked_from
checked_step left table index h right = simp (lt-leb (length table) (index * width_record_size) h, right)

checked_all : (checksum scale least : ℕ) (front rest : List Entry) → Alike checksum scale rest → Rising least rest → Before checksum scale least front → (left : ℕ) → length rest ≤ left
    → checked_from name_size left (table_bytes (front ++ rest)) (length front) ≡ given (length (front ++ rest))
checked_all checksum scale least front [] alike rising before left h =
    subst (λ (l : List Entry). checked_from name_size left (table_bytes l) (length front) ≡ given (length l)) (sym (append-nil front)) (checked_end left front)
checked_all checksum scale least front (e ∷ rest) alike rising before zero h = absurd (omega arith)
checked_all checksum scale least front (e ∷ rest) (an_entry d sum_is scale_is fits alike) (more d' low high rising) before (suc left) h =
    let table = table_bytes (front ++ (e ∷ rest)) in
    let inside : length front * width_record_size < length table = omega (arith, table_length (front ++ (e ∷ rest)), length-append front (e ∷ rest)) in
    let right = right_record checksum scale e sum_is scale_is fits rest least front low before in
    let next = front ++ (e ∷ []) in
    let same : next ++ rest ≡ front ++ (e ∷ rest) = append_assoc front (e ∷ []) rest in
    let count : length next ≡ suc (length front) = omega (arith, length-append front (e ∷ [])) in
    let onward = checked_all checksum scale (suc e.code) next rest alike rising (last front e sum_is scale_is fits (omega arith)) left (omega arith) in
    checked_step left table (length front) inside right
    ∙ ap₂ (λ (l : List Entry) (n : ℕ). checked_from name_size left (table_bytes l) n) (sym same) (sym count)
    ∙ onward
    ∙ ap (λ (l : List Entry). given (length l)) same

pub alike_checks : (checksum scale : ℕ) (entries : List Entry) → Alike checksum scale entries → Rising 0 entries → checked_table (table_bytes entries) ≡ given (length entries)
alike_checks checksum scale entries alike rising =
    checked_all checksum scale 0 [] entries alike rising nothing (suc (length (table_bytes entries))) (omega (arith, table_length entries))
