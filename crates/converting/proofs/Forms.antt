-- Records in another form: how many bytes they have, one record after the other, and each byte of a record. Assumes nothing.
use Prim.Native.Nat.{ℕ, zero, suc, ◌+◌, ◌*◌, ◌≤◌, ◌<◌}
use mathlib.Core.Path.{◌≡◌, refl, sym, ap, ap₂, ◌∙◌}
use mathlib.Core.List.{List, ◌++◌, append_assoc}
use native.Mathlib.Nat.{suc-mul, zero-mul, zero-add, suc-add, mul-le-mul_right}
use native.Mathlib.Omega.{arith}
use lib.ListN.{length, get_or, take, drop, replicate, length-append, length-drop, length-replicate, get_or-replicate, get_or-append}
use lib.Seq.{sets, length-take-le, drop-drop, drop_at, get_or-take, get_or-drop, get_or-append-add}
use Rattle.areas.proofs.Pasting.{sets_behind}
use Rattle.widths.specs.Table.{size_with}
use Rattle.converting.specs.Converting.{in_form}

-- ---- places

-- a record among others lies where they do
pub record_fits : (size records index at room : ℕ) → records * size ≤ room → index < records → at ≡ index * size → at + size ≤ room
record_fits size records index at room fits inside at_is =
    let past : suc index * size ≤ records * size = mul-le-mul_right size inside in omega (arith, suc-mul index size)

-- ---- parts

-- a list of four parts with more behind it
behind_four : (a b c d more : List ℕ) → a ++ (b ++ (c ++ d)) ++ more ≡ a ++ (b ++ (c ++ (d ++ more)))
behind_four a b c d more =
    append_assoc a (b ++ (c ++ d)) more
    ∙ ap (λ (l : List ℕ). a ++ l) (append_assoc b (c ++ d) more ∙ ap (λ (l : List ℕ). b ++ l) (append_assoc c d more))

module _ (from to : ℕ) where
  -- the bytes before a record's name, its name in the other form, and the bytes behind the name
  abbrev front : List ℕ → List ℕ
  front table = take 8 table

  abbrev name : List ℕ
  name = replicate to 0

  abbrev back : List ℕ → List ℕ
  back table = take 8 (drop (8 + from) table)

  -- a table that begins with a whole record
  module _ (table : List ℕ) (whole : size_with from ≤ length table) where
    pub front_length : length (front table) ≡ 8
    front_length = length-take-le 8 table (omega arith)

    pub back_length : length (back table) ≡ 8
    back_length = length-take-le 8 (drop (8 + from) table) (omega (arith, length-drop (8 + from) table))

  pub name_length : length name ≡ to
  name_length = length-replicate {A = ℕ} to 0

  -- ---- how many bytes

  pub form_length : (records : ℕ) (table : List ℕ) → records * size_with from ≤ length table → length (in_form from to records table) ≡ records * size_with to
  form_length zero table h = omega arith
  form_length (suc records) table h =
      let next : suc records * size_with from ≡ records * size_with from + size_with from = suc-mul records (size_with from) in
      let more = in_form from to records (drop (size_with from) table) in
      let rest : length more ≡ records * size_with to = form_length records (drop (size_with from) table) (omega (arith, length-drop (size_with from) table)) in
      omega (
        arith,
        suc-mul records (size_with to),
        rest,
        front_length table (omega arith),
        back_length table (omega arith),
        name_length,
        length-append (back table) more,
        length-append name (back table ++ more),
        length-append (front table) (name ++ (back table ++ more)),
      )

  -- ---- one record after the other

  pub form_more : (first records : ℕ) (table : List ℕ) → in_form from to (first + records) table ≡ in_form from to first table ++ in_form from to records (drop (first * size_with from) table)
  form_more zero records table =
      ap (λ (n : ℕ). in_form from to n table) (zero-add records)
      ∙ ap (λ (n : ℕ). in_form from to records (drop n table)) (sym (zero-mul (size_with from)))
  form_more (suc first) records table =
      let rest = drop (size_with from) table in
      let place : size_with from + first * size_with from ≡ suc first * size_with from = omega (arith, suc-mul first (size_with from)) in
      ap (λ (n : ℕ). in_form from to n table) (suc-add first records)
      ∙ ap (λ (l : List ℕ). front table ++ (name ++ (back table ++ l))) (form_more first records rest)
      ∙ ap (λ (l : List ℕ). front table ++ (name ++ (back table ++ (in_form from to first rest ++ in_form from to records l)))) (drop-drop (first * size_with from) (size_with from) table ∙ ap (λ (n : ℕ). drop n table) place)
      ∙ sym (behind_four (front table) name (back table) (in_form from to first rest) (in_form from to records (drop (suc first * size_with from) table)))

  -- what is behind so many records is the other records in the other form
  pub form_behind : (first records : ℕ) (table : List ℕ) → first * size_with from ≤ length table
      → drop (first * size_with to) (in_form from to (first + records) table) ≡ in_form from to records (drop (first * size_with from) table)
  form_behind first records table h =
      let rest = in_form from to records (drop (first * size_with from) table) in
      ap (drop (first * size_with to)) (form_more first records table)
      ∙ drop_at (in_form from to first table) rest (first * size_with to) (form_length first table h)

  -- a record written behind so many
  pub form_written : (first : ℕ) (table out : List ℕ) (at written : ℕ) → first * size_with from ≤ length table → at ≡ first * size_with from → written ≡ first * size_with to
      → sets (sets out 0 (in_form from to first table)) written (in_form from to 1 (drop at table)) ≡ sets out 0 (in_form from to (first + 1) table)
  form_written first table out at written h at_is written_is =
      let place : written ≡ 0 + length (in_form from to first table) = omega (arith, form_length first table h) in
      ap₂ (λ (n : ℕ) (l : List ℕ). sets (sets out 0 (in_form from to first table)) n (in_form from to 1 l)) place (ap (λ (n : ℕ). drop n table) at_is)
      ∙ sets_behind out 0 (in_form from to first table) (in_form from to 1 (drop (first * size_with from) table))
      ∙ ap (sets out 0) (sym (form_more first 1 table))

  -- ---- each byte of a record

  module _ (records : ℕ) (table : List ℕ) (whole : size_with from ≤ length table) where
    abbrev more : List ℕ
    more = in_form from to records (drop (size_with from) table)

    first_front : (i : ℕ) → i < 8 → get_or (in_form from to (suc records) table) i 0 ≡ get_or table i 0
    first_front i h =
        get_or-append (front table) (name ++ (back table ++ more)) 0 i (omega (arith, front_length table whole))
        ∙ get_or-take 8 table i 0 h

    behind_front : (i : ℕ) → get_or (in_form from to (suc records) table) (8 + i) 0 ≡ get_or (name ++ (back table ++ more)) i 0
    behind_front i =
        let place : 8 + i ≡ length (front table) + i = omega (arith, front_length table whole) in
        ap (λ (n : ℕ). get_or (in_form from to (suc records) table) n 0) place
        ∙ get_or-append-add (front table) (name ++ (back table ++ more)) i 0

    first_name : (i : ℕ) → i < to → get_or (in_form from to (suc records) table) (8 + i) 0 ≡ 0
    first_name i h = behind_front i ∙ get_or-append name (back table ++ more) 0 i (omega (arith, name_length)) ∙ get_or-replicate to i 0 0 h

    first_back : (i : ℕ) → i < 8 → get_or (in_form from to (suc records) table) (to + (8 + i)) 0 ≡ get_or table (from + (8 + i)) 0
    first_back i h =
        let place : to + (8 + i) ≡ 8 + (length name + i) = omega (arith, name_length) in
        let source : 8 + from + i ≡ from + (8 + i) = omega arith in
        ap (λ (n : ℕ). get_or (in_form from to (suc records) table) n 0) place
        ∙ behind_front (length name + i)
        ∙ get_or-append-add name (back table ++ more) i 0
        ∙ get_or-append (back table) more 0 i (omega (arith, back_length table whole))
        ∙ get_or-take 8 (drop (8 + from) table) i 0 h
        ∙ get_or-drop (8 + from) table i 0
        ∙ ap (λ (n : ℕ). get_or table n 0) source

  module _ (records : ℕ) (table : List ℕ) (fits : records * size_with from ≤ length table) (first left : ℕ) (count : first + suc left ≡ records) where
    abbrev rest : List ℕ
    rest = drop (first * size_with from) table

    before : first * size_with from + size_with from ≤ length table
    before = record_fits (size_with from) records first (first * size_with from) (length table) fits (omega arith) refl

    whole_rest : size_with from ≤ length rest
    whole_rest = omega (arith, before, length-drop (first * size_with from) table)

    -- a byte of the record behind the first so many
    there : (i : ℕ) → get_or (in_form from to records table) (first * size_with to + i) 0 ≡ get_or (in_form from to (suc left) rest) i 0
    there i =
        ap (λ (n : ℕ). get_or (in_form from to n table) (first * size_with to + i) 0) (sym count)
        ∙ sym (get_or-drop (first * size_with to) (in_form from to (first + suc left) table) i 0)
        ∙ ap (λ (l : List ℕ). get_or l i 0) (form_behind first (suc left) table (omega (arith, before)))

    pub front_byte : (i : ℕ) → i < 8 → get_or (in_form from to records table) (first * size_with to + i) 0 ≡ get_or table (first * size_with from + i) 0
    front_byte i h = there i ∙ first_front left rest whole_rest i h ∙ get_or-drop (first * size_with from) table i 0

    pub name_byte : (i : ℕ) → i < to → get_or (in_form from to records table) (first * size_with to + (8 + i)) 0 ≡ 0
    name_byte i h = there (8 + i) ∙ first_name left rest whole_rest i h

    pub back_byte : (i : ℕ) → i < 8 → get_or (in_form from to records table) (first * size_with to + (to + (8 + i))) 0 ≡ get_or table (first * size_with from + (from + (8 + i))) 0
    back_byte i h = there (to + (8 + i)) ∙ first_back left rest whole_rest i h ∙ get_or-drop (first * size_with from) table (from + (8 + i)) 0
