-- Looking a character up in a width table. Assumes nothing.
use Rattle.std.specs.Prelude.{ℕ, zero, suc, Bool, cond, ◌&&◌, List, eqb, ℤ}
use Rattle.refusals.specs.Answer.{Answer, given, and_then}
use Rattle.numbers.specs.Signs.{to_twos}
use Rattle.names.specs.Names.{name_size, name_number, any_name, sought_name}
use Rattle.widths.specs.declared.Metric.{Metric}
use Rattle.widths.specs.Table.{WidthRecord, record_in, checked_table}

-- what a look-up finds: escapement and width of the character, or that it is absent (rule 6.8)
pub data LookUp : Type 0 where
  found : Metric → LookUp
  absent : LookUp

-- the code modulo 256, so that −1 is 255 (rule 6.8)
abbrev pub code_byte : ℤ → ℕ
code_byte code = to_twos 256 code

-- what a record says of its character (rule 6.8)
abbrev pub metric_of : WidthRecord → Metric
metric_of r = record { escapement = r.escapement; width = r.width }

-- a record is for a character of a font: check sum, scale, name and code are those that are sought (rule 6.8)
abbrev pub is_for : WidthRecord → ℕ → ℕ → ℕ → ℕ → Bool
is_for r checksum scale name byte = eqb r.checksum checksum && (eqb r.scale scale && (eqb r.name name && eqb r.code byte))

-- a plain walk over so many records, whose names have so many bytes, from an index on: the first that is the character's (rule 6.8)
unfoldable pub walk_from : ℕ → ℕ → List ℕ → ℕ → ℕ → ℕ → ℕ → ℕ → LookUp
walk_from named zero table index checksum scale name byte = absent
walk_from named (suc left) table index checksum scale name byte =
    cond (is_for (record_in named table index) checksum scale name byte)
    (found (metric_of (record_in named table index)))
    (walk_from named left table (suc index) checksum scale name byte)

-- the walk over a table of so many records, for one name (rule 6.8)
abbrev pub walk : ℕ → List ℕ → ℕ → ℕ → ℕ → ℕ → LookUp
walk records table checksum scale name byte = walk_from name_size records table 0 checksum scale name byte

-- what was found, or else what is found next (rule 6.10)
abbrev pub or_else : LookUp → LookUp → LookUp
or_else (found m) next = found m
or_else absent next = next

-- the name that is sought, and then sixteen zeros (rule 6.10)
abbrev pub looked_for : ℕ → List ℕ → ℕ → ℕ → ℕ → ℕ → LookUp
looked_for records table checksum scale name byte =
    or_else (walk records table checksum scale name byte) (walk records table checksum scale (name_number any_name) byte)

-- what look_up answers: the table is judged first (rule 9.7)
abbrev pub looked_up : List ℕ → ℕ → ℕ → List ℕ → ℤ → Answer LookUp
looked_up table checksum scale name code =
    and_then (checked_table table) (λ records. given (looked_for records table checksum scale (name_number (sought_name name)) (code_byte code)))

-- the look-up in a table of the old form, by check sum, scale and code: a name of no bytes is 0 (rules 6.11, 13.4)
abbrev pub old_walk : ℕ → List ℕ → ℕ → ℕ → ℕ → LookUp
old_walk records table checksum scale byte = walk_from 0 records table 0 checksum scale 0 byte
