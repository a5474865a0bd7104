-- The width table: its records, and which tables are right. Assumes nothing.
use Rattle.std.specs.Prelude.{ℕ, zero, suc, ◌+◌, ◌*◌, Bool, true, cond, not, ◌&&◌, List, ltb, leb, eqb, length, get_or, take, drop, ℤ}
use Rattle.refusals.specs.Numbers.{wrong_width_table}
use Rattle.refusals.specs.Answer.{Answer, given, refuse_if}
use Rattle.numbers.specs.Bytes.{unsigned_at, signed_at}
use Rattle.numbers.specs.Sizes.{lawful_size}
use Rattle.names.specs.Names.{name_size, name_then_zeros}
use Rattle.scaling.specs.declared.FixWord.{FixWord}
use Rattle.scaling.specs.Scaling.{lawful_first}

-- ---- the layout: everything is told by how many bytes the name has, `named`, which are sixteen (rule 6.1) or, in the old form, none (rule 6.11)

-- how many bytes a record has (rules 6.1, 6.11)
abbrev pub size_with : ℕ → ℕ
size_with named = named + 16

-- what a record holds, and its key, all bytes up to and with the code as one number; so is the name (rule 6.1)
pub record WidthRecord : Type 0 where
  pub key : ℕ
  pub checksum : ℕ
  pub scale : ℕ
  pub name : ℕ
  pub name_bytes : List ℕ
  pub code : ℕ
  pub zero_byte : ℕ
  pub escapement : ℤ
  pub width : FixWord

-- the record at a place, field by field (rules 6.1, 6.11)
abbrev pub record_with : ℕ → List ℕ → ℕ → WidthRecord
record_with named table at =
    record {
      key = unsigned_at table at (named + 9);
      checksum = unsigned_at table at 4;
      scale = unsigned_at table (at + 4) 4;
      name = unsigned_at table (at + 8) named;
      name_bytes = take named (drop (at + 8) table);
      code = get_or table (at + (named + 8)) 0;
      zero_byte = get_or table (at + (named + 9)) 0;
      escapement = signed_at table (at + (named + 10)) 2;
      width = record { b0 = get_or table (at + (named + 12)) 0; b1 = get_or table (at + (named + 13)) 0; b2 = get_or table (at + (named + 14)) 0; b3 = get_or table (at + (named + 15)) 0 };
    }

-- the record of an index, counted from 0 (rule 6.1)
unfoldable pub record_in : ℕ → List ℕ → ℕ → WidthRecord
record_in named table index = record_with named table (index * size_with named)

-- ---- which tables are right

-- a record's key is above the one before; numbers of equally many bytes are in order as their bytes are (rule 6.3)
abbrev pub rises_in : ℕ → List ℕ → ℕ → Bool
rises_in named table zero = true
rises_in named table (suc index) = ltb (record_in named table index).key (record_in named table (suc index)).key

-- a record's own fields are right (rules 6.4, 6.5)
abbrev pub lawful_fields : WidthRecord → Bool
lawful_fields r = lawful_size r.scale && (name_then_zeros r.name_bytes && (eqb r.zero_byte 0 && lawful_first r.width.b0))

-- the table has all bytes of a record (rule 6.2)
abbrev pub whole_in : ℕ → List ℕ → ℕ → Bool
whole_in named table index = leb (index * size_with named + size_with named) (length table)

-- a record that breaks no rule (rules 6.2 to 6.5)
abbrev pub right_in : ℕ → List ℕ → ℕ → Bool
right_in named table index = whole_in named table index && (rises_in named table index && lawful_fields (record_in named table index))

-- the records from an index on, at most so many: how many the table has, or the first byte of the first wrong one (rule 9.6)
unfoldable pub checked_from : ℕ → ℕ → List ℕ → ℕ → Answer ℕ
checked_from named zero table index = given index
checked_from named (suc left) table index =
    cond (leb (length table) (index * size_with named)) (given index)
    (refuse_if (not (right_in named table index)) wrong_width_table (index * size_with named) (checked_from named left table (suc index)))

-- the whole table; it has no more records than bytes (rule 9.6)
abbrev pub checked_in : ℕ → List ℕ → Answer ℕ
checked_in named table = checked_from named (suc (length table)) table 0

-- ---- the form with names

-- how many bytes a record has (rule 6.1)
abbrev pub width_record_size : ℕ
width_record_size = size_with name_size

-- the record at a place (rule 6.1)
abbrev pub record_at : List ℕ → ℕ → WidthRecord
record_at table at = record_with name_size table at

-- the record of an index (rule 6.1)
abbrev pub record_of : List ℕ → ℕ → WidthRecord
record_of table index = record_in name_size table index

-- what check_table answers (rule 9.6)
abbrev pub checked_table : List ℕ → Answer ℕ
checked_table table = checked_in name_size table

-- ---- the old form

-- how many bytes a record of the old form has (rule 6.11)
abbrev pub old_record_size : ℕ
old_record_size = size_with 0

-- the same check of a table of the old form (rule 6.11)
abbrev pub old_table : List ℕ → Answer ℕ
old_table table = checked_in 0 table
