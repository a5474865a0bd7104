-- What the code's own steps give and keep; no promise cites this. Assumes nothing.
use Rattle.std.specs.Prelude.{ℕ, suc, ◌+◌, ◌*◌, ◌^◌, ◌≤◌, ◌<◌, ◌≡◌, Bool, true, not, ◌&&◌, List, ltb, leb, eqb, length, Option, Some, None}
use Rattle.names.specs.Names.{name_size, name_then_zeros, name_number, any_name}
use Rattle.widths.specs.declared.blocks.Block.{Block}
use Rattle.widths.specs.declared.table.Key.{Key}
use Rattle.numbers.specs.Sizes.{lawful_size}
use Rattle.scaling.specs.Scaling.{lawful_first}
use Rattle.widths.specs.Table.{size_with, WidthRecord, record_in, rises_in, lawful_fields, checked_from, checked_in, record_at, record_of}
use Rattle.widths.specs.LookUp.{LookUp, found, absent, metric_of, walk, looked_for}

-- check sum, scale and name as one number
abbrev pub block_number : Key → ℕ
block_number k = (k.head * 2 ^ 64 + k.high) * 2 ^ 64 + k.low

-- a key as the number of its twenty-five bytes
abbrev pub key_number : Key → ℕ
key_number k = block_number k * 256 + k.code

-- the parts of a key that others stand before have their bytes; a code may be one past the last
abbrev pub InKey : Key → Type 0
InKey k = (k.high < 2 ^ 64) × (k.low < 2 ^ 64) × (k.code ≤ 256)

-- k is the key of a check sum, a scale, a name and a code
pub record KeyIs (checksum scale name code : ℕ) (k : Key) : Type 0 where
  pub head_is : k.head ≡ checksum * 2 ^ 32 + scale
  pub scale_below : scale < 2 ^ 32
  pub name_is : k.high * 2 ^ 64 + k.low ≡ name
  pub high_below : k.high < 2 ^ 64
  pub low_below : k.low < 2 ^ 64
  pub code_is : k.code ≡ code
  pub code_below : k.code < 256

-- k is the key of the record at a place
abbrev pub KeyAt : List ℕ → ℕ → Key → Type 0
KeyAt table at k = let r = record_at table at in KeyIs r.checksum r.scale r.name r.code k

-- a key reaches another: it is not below it
abbrev pub reaches : Key → Key → Bool
reaches key least = not (ltb (key_number key) (key_number least))

-- scale and name of a record are right
abbrev pub lawful_block : WidthRecord → Bool
lawful_block r = lawful_size r.scale && name_then_zeros r.name_bytes

-- what a next key must reach: where a key of its check sum, scale and name can have its code, those of the record are lawful
abbrev pub LeastKey : List ℕ → Key → Type 0
LeastKey table least =
    InKey least
    × (least.code < 256 → (at : ℕ) (key : Key) → at + 32 ≤ length table → KeyAt table at key → block_number key ≡ block_number least → lawful_block (record_at table at) ≡ true)

-- the fields behind the key are right
abbrev pub lawful_rest : WidthRecord → Bool
lawful_rest r = eqb r.zero_byte 0 && lawful_first r.width.b0

-- what holds as the check goes on, whatever the form: so many records are judged, so many at most are left, and the key of a next one with lawful fields must reach `least`
pub record Checking (named : ℕ) (table : List ℕ) (at least : ℕ) : Type 0 where
  pub index : ℕ
  pub left : ℕ
  pub place : at ≡ index * size_with named
  pub enough : index + left ≡ suc (length table)
  pub reach : (rises_in named table index && lawful_fields (record_in named table index)) ≡ (not (ltb (record_in named table index).key least) && lawful_fields (record_in named table index))
  pub rest : checked_from named left table index ≡ checked_in named table

-- the same of the form with names, within the whole records
abbrev pub Judging : List ℕ → ℕ → ℕ → Key → Type 0
Judging table whole at least = (at ≤ whole) × LeastKey table least × Checking name_size table at (key_number least)

-- a key with another code
abbrev pub with_code : Key → ℕ → Key
with_code k code = record { head = k.head; high = k.high; low = k.low; code = code }

-- what stands at the place that a search found
abbrev pub found_at : List ℕ → Option ℕ → LookUp
found_at table (Some index) = found (metric_of (record_of table index))
found_at table None = absent

-- the search for a key found what the walk finds for the character whose key it is
abbrev pub KeyFound : List ℕ → ℕ → Key → Option ℕ → Type 0
KeyFound table records key r = (checksum scale name byte : ℕ) → KeyIs checksum scale name byte key → found_at table r ≡ walk records table checksum scale name byte

-- a place that a search found is one of the records
abbrev pub Among : ℕ → Option ℕ → Type 0
Among records (Some index) = index < records
Among records None = Unit {0}

-- the first of so many records whose key is not below a key
pub record FirstNotBelow (table : List ℕ) (records key index : ℕ) : Type 0 where
  pub bound : index ≤ records
  pub below : (j : ℕ) → j < index → (record_of table j).key < key
  pub above : (j : ℕ) → index ≤ j → j < records → key ≤ (record_of table j).key

-- ---- the records of one check sum, scale and name

-- they stand from the first record whose key is not below that of their code 0 to the first whose key is past all their codes
pub record BlockIs (table : List ℕ) (records checksum scale name : ℕ) (block : Block) : Type 0 where
  pub key : Key
  pub key_is : KeyIs checksum scale name 0 key
  pub starts : FirstNotBelow table records (key_number key) block.start
  pub ends : FirstNotBelow table records (key_number (with_code key 256)) block.end

-- a block lies within so many records
abbrev pub Within : ℕ → Block → Type 0
Within records block = (block.start ≤ block.end) × (block.end ≤ records)

-- an index is that of a record in a block with a code
abbrev pub has_code : List ℕ → Block → ℕ → ℕ → Bool
has_code table block byte index = leb block.start index && (ltb index block.end && eqb (record_of table index).code byte)

-- the first record that is not below a code's key, whatever check sum, scale and name a block is that of
abbrev pub FirstCode : List ℕ → ℕ → Block → ℕ → ℕ → Type 0
FirstCode table records block byte index =
    (checksum scale name : ℕ) (is : BlockIs table records checksum scale name block) → FirstNotBelow table records (key_number (with_code is.key byte)) index

-- the search in a block found what the walk finds for its check sum, scale and name
abbrev pub CodeFound : List ℕ → ℕ → Block → ℕ → Option ℕ → Type 0
CodeFound table records block byte r =
    (checksum scale name : ℕ) → BlockIs table records checksum scale name block → found_at table r ≡ walk records table checksum scale name byte

-- the search by the records of a name and those for any name found what is found for a character of the font
abbrev pub FoundIn : List ℕ → ℕ → Block → Block → ℕ → Option ℕ → Type 0
FoundIn table records own any byte r =
    (checksum scale name : ℕ) → BlockIs table records checksum scale name own → BlockIs table records checksum scale (name_number any_name) any
    → found_at table r ≡ looked_for records table checksum scale name byte
