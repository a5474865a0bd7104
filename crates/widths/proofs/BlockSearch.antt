-- The records of one check sum, scale and name: within them the codes tell the keys apart, so that a search by codes finds what the plain walk finds. Assumes nothing.
use mathlib.Core.Path.{◌≡◌, refl, sym, ap, ap₂, subst, ◌∙◌}
use mathlib.Core.Logic.{⊎_elim}
use mathlib.Core.Bool.{true, false, ◌&&◌, and-eq-true_iff}
use mathlib.Core.List.{List}
use Prim.Native.Nat.{ℕ, ◌+◌, ◌*◌, ◌≤◌, ◌<◌}
use native.Mathlib.Omega.{arith}
use borrow.Author.Tests.{eqb-true, eq-eqb, leb-true, ltb-true, le-leb, lt-ltb}
use lib.Dec.{ltb, leb, eqb}
use lib.ListN.{get_or}
use Rattle.refusals.specs.Answer.{given}
use Rattle.numbers.specs.Bytes.{unsigned_at}
use Rattle.numbers.specs.Sizes.{lawful_size}
use Rattle.numbers.proofs.Bytes.{unsigned_join, unsigned_below}
use Rattle.numbers.proofs.Radix.{less_or_not}
use Rattle.names.specs.Names.{name_size}
use Rattle.names.proofs.NameLaws.{number_at}
use Rattle.widths.specs.declared.blocks.Block.{Block}
use Rattle.widths.specs.declared.table.Key.{Key}
use Rattle.widths.specs.Table.{width_record_size, record_in, record_of, checked_table}
use Rattle.widths.specs.LookUp.{found, absent, metric_of, walk}
use Rattle.widths.specs.Steps.{block_number, key_number, KeyIs, KeyAt, with_code, FirstNotBelow, BlockIs, Within, has_code}
use Rattle.widths.proofs.Keys.{character_key, key_number_lem, key_is, key_for, low_key}
use Rattle.widths.proofs.TableLaws.{fields_right}
use Rattle.widths.proofs.Search.{Between, search_ends, own_found, walk_misses}

-- ---- a record's key

-- the key at a place, number by number
abbrev pub key_there : List ℕ → ℕ → Key
key_there table at = record { head = unsigned_at table at 8; high = unsigned_at table (at + 8) 8; low = unsigned_at table (at + 8 + 8) 8; code = get_or table (at + 24) 0 }

module _ (table : List ℕ) (bytes : (i : ℕ) → get_or table i 0 < 256) where
  pub key_there_lem : (at : ℕ) → KeyAt table at (key_there table at)
  key_there_lem at =
      record {
        head_is = unsigned_join table at 4 4;
        scale_below = unsigned_below table (at + 4) 4 (λ i h. bytes (at + 4 + i));
        name_is = number_at table (at + 8);
        high_below = unsigned_below table (at + 8) 8 (λ i h. bytes (at + 8 + i));
        low_below = unsigned_below table (at + 8 + 8) 8 (λ i h. bytes (at + 8 + 8 + i));
        code_is = refl;
        code_below = bytes (at + 24);
      }

-- ---- within a block

-- a number between the first and the last of a block is in it
in_between : (block other code first : ℕ) → first ≡ 0 → code < 256 → block * 256 + first ≤ other * 256 + code → other * 256 + code < block * 256 + 256 → other ≡ block
in_between block other code first none small low high = omega arith

-- a block starts no later than it ends
pub in_order : {table : List ℕ} {records checksum scale name : ℕ} {block : Block} → BlockIs table records checksum scale name block → Within records block
in_order {table} {records} {checksum} {scale} {name} {block} is =
    ⊎_elim (λ (over : block.end < block.start). absurd (apart over))
    (λ (under : block.start ≤ block.end). (under, is.ends.bound))
    (less_or_not block.end block.start)
  where
    none : (b first other : ℕ) → first ≡ 0 → other < b * 256 + first → b * 256 + 256 ≤ other → ⊥
    none b first other e low high = omega arith

    apart : block.end < block.start → ⊥
    apart over =
        none (block_number is.key) is.key.code (record_of table block.end).key is.key_is.code_is (is.starts.below block.end over)
        (is.ends.above block.end (omega arith) (omega (arith, is.starts.bound)))

module _ (table : List ℕ) (bytes : (i : ℕ) → get_or table i 0 < 256) (records : ℕ) (judged : checked_table table ≡ given records) (checksum scale name : ℕ) (block : Block)
    (is : BlockIs table records checksum scale name block) where
  -- the key of a code
  abbrev coded : ℕ → ℕ
  coded byte = key_number (with_code is.key byte)

  code_key : (byte : ℕ) → byte < 256 → KeyIs checksum scale name byte (with_code is.key byte)
  code_key byte small =
      let k = is.key_is in
      record { head_is = k.head_is; scale_below = k.scale_below; name_is = k.name_is; high_below = k.high_below; low_below = k.low_below; code_is = refl; code_below = small }

  module _ (index : ℕ) (low : block.start ≤ index) (high : index < block.end) where
    inside : index < records
    inside = omega (arith, is.ends.bound)

    abbrev here : Key
    here = key_there table (index * width_record_size)

    here_is : key_number here ≡ (record_of table index).key
    here_is = key_is table index here (key_there_lem table bytes (index * width_record_size))

    in_block : block_number here ≡ block_number is.key
    in_block =
        in_between (block_number is.key) (block_number here) here.code is.key.code is.key_is.code_is (bytes (index * width_record_size + 24))
        (subst (λ (n : ℕ). key_number is.key ≤ n) (sym here_is) (is.starts.above index low inside))
        (subst (λ (n : ℕ). n < coded 256) (sym here_is) (is.ends.below index high))

    code_here : (record_of table index).code ≡ here.code
    unfolding record_in
    code_here = refl

    -- a record of the block has the key of its code
    pub key_coded : (record_of table index).key ≡ coded (record_of table index).code
    key_coded = sym here_is ∙ ap₂ (λ (b code : ℕ). b * 256 + code) in_block (sym code_here)

    -- and is what the walk finds for it
    pub code_hits : (byte : ℕ) → byte < 256 → (record_of table index).code ≡ byte → found (metric_of (record_of table index)) ≡ walk records table checksum scale name byte
    code_hits byte small e =
        sym (own_found table records judged checksum scale name byte index inside
        (key_for table index checksum scale name byte here (with_code is.key byte) (key_there_lem table bytes (index * width_record_size)) (code_key byte small)
        (here_is ∙ key_coded ∙ ap coded e)))

    less_coded : (b code byte : ℕ) → code < byte → b * 256 + code < b * 256 + byte
    less_coded b code byte h = omega arith

    not_less_coded : (b code byte : ℕ) → byte ≤ code → b * 256 + byte ≤ b * 256 + code
    not_less_coded b code byte h = omega arith

    pub code_below : (byte : ℕ) → (record_of table index).code < byte → (record_of table index).key < coded byte
    code_below byte h = subst (λ (n : ℕ). n < coded byte) (sym key_coded) (less_coded (block_number is.key) (record_of table index).code byte h)

    pub code_above : (byte : ℕ) → byte ≤ (record_of table index).code → coded byte ≤ (record_of table index).key
    code_above byte h = subst (λ (n : ℕ). coded byte ≤ n) (sym key_coded) (not_less_coded (block_number is.key) (record_of table index).code byte h)

  module _ (byte : ℕ) (small : byte < 256) where
    before_first : (b first other : ℕ) → first ≡ 0 → other < b * 256 + first → other < b * 256 + byte
    before_first b first other e h = omega arith

    behind_last : (b other : ℕ) → b * 256 + 256 ≤ other → b * 256 + byte < other
    behind_last b other h = omega arith

    at_last : (b other : ℕ) → b * 256 + 256 ≤ other → b * 256 + byte ≤ other
    at_last b other h = omega arith

    -- the search for a code starts with the whole block
    pub block_starts : Between table records (coded byte) block.start block.end
    block_starts =
        record {
          order = (in_order is).0;
          top = (in_order is).1;
          below = λ j under. before_first (block_number is.key) is.key.code (record_of table j).key is.key_is.code_is (is.starts.below j under);
          above = λ j over inside. at_last (block_number is.key) (record_of table j).key (is.ends.above j over inside);
        }

    -- where the first record that is not below a code's key is no record of the block with that code, none is
    pub code_misses : (index : ℕ) → FirstNotBelow table records (coded byte) index → (block.start ≤ index → index < block.end → (record_of table index).code ≡ byte → ⊥)
        → absent ≡ walk records table checksum scale name byte
    code_misses index first other =
        walk_misses table records judged checksum scale name byte index (subst (λ (n : ℕ). FirstNotBelow table records n index) number first)
        (λ inside e. differs inside (e ∙ sym number))
      where
        number : coded byte ≡ character_key checksum scale name byte
        number = key_number_lem checksum scale name byte (with_code is.key byte) (code_key byte small)

        same_code : (b code : ℕ) → b * 256 + code ≡ b * 256 + byte → code ≡ byte
        same_code b code e = omega arith

        not_less : (n m : ℕ) → n < m → n ≡ m → ⊥
        not_less n m h e = omega arith

        differs : index < records → (record_of table index).key ≡ coded byte → ⊥
        differs inside e =
            ⊎_elim
            (λ (under : index < block.start). not_less (record_of table index).key (coded byte) (block_starts.below index under) e)
            (λ (from : block.start ≤ index).
            ⊎_elim
            (λ (to : index < block.end). other from to (same_code (block_number is.key) (record_of table index).code (sym (key_coded index from to) ∙ e)))
            (λ (over : block.end ≤ index). not_less (coded byte) (record_of table index).key (behind_last (block_number is.key) (record_of table index).key (is.ends.above index over inside)) (sym e))
            (less_or_not index block.end))
            (less_or_not index block.start)

    -- an empty block has no record
    pub empty_misses : block.start ≡ block.end → absent ≡ walk records table checksum scale name byte
    empty_misses e =
        code_misses block.start (search_ends table records (coded byte) block.start block.end block_starts (omega arith)) (λ from to same. absurd (omega arith))

-- ---- the test for a code

module _ (table : List ℕ) (block : Block) (byte index : ℕ) where
  pub record Has : Type 0 where
    pub from : block.start ≤ index
    pub to : index < block.end
    pub code_is : (record_of table index).code ≡ byte

  pub has : has_code table block byte index ≡ true → Has
  has e =
      let outer = (and-eq-true_iff (leb block.start index) (ltb index block.end && eqb (record_of table index).code byte)).0 e in
      let inner = (and-eq-true_iff (ltb index block.end) (eqb (record_of table index).code byte)).0 outer.1 in
      record { from = leb-true block.start index outer.0; to = ltb-true index block.end inner.0; code_is = eqb-true (record_of table index).code byte inner.1 }

  pub has_not : has_code table block byte index ≡ false → block.start ≤ index → index < block.end → (record_of table index).code ≡ byte → ⊥
  has_not e from to same =
      let z : true ≡ false = sym (simp (le-leb block.start index from, lt-ltb index block.end to, eq-eqb (record_of table index).code byte same)) ∙ e in
      absurd (let bad : ◌≡◌ {A = ℕ} 0 1 = cc in omega arith)

-- ---- no font

-- no record has check sum, scale and name 0: scale 0 is not lawful
pub no_records : (table : List ℕ) (records : ℕ) → checked_table table ≡ given records → BlockIs table records 0 0 0 (record { start = 0; end = 0 })
unfolding record_in
no_records table records judged =
    record {
      key = record { head = 0; high = 0; low = 0; code = 0 };
      key_is = record { head_is = refl; scale_below = omega arith; name_is = refl; high_below = omega arith; low_below = omega arith; code_is = refl; code_below = omega arith };
      starts = record { bound = omega arith; below = λ j h. absurd (omega arith); above = λ j h inside. omega arith };
      ends = record { bound = omega arith; below = λ j h. absurd (omega arith); above = λ j h inside. above j inside };
    }
  where
    above : (j : ℕ) → j < records → 256 ≤ (record_of table j).key
    above j inside =
        ⊎_elim
        (λ (low : (record_of table j).key < 256).
        let lawful = ((and-eq-true_iff (lawful_size (record_of table j).scale) _).0 (fields_right name_size table records judged j inside)).0 in
        let none : (record_of table j).scale ≡ 0 = low_key name_size table (j * width_record_size) low in
        absurd (let bad : false ≡ true = subst (λ (n : ℕ). lawful_size n ≡ true) none lawful in let z : ◌≡◌ {A = ℕ} 0 1 = cc in omega arith))
        (λ (high : 256 ≤ (record_of table j).key). high)
        (less_or_not (record_of table j).key 256)
