-- A width table of the old form in the new one, and the way back. Assumes nothing.
use Rattle.std.specs.Prelude.{ℕ, zero, suc, ◌+◌, ◌*◌, not, List, [], ◌++◌, ltb, eqb, take, drop, replicate}
use Rattle.refusals.specs.Numbers.{area_too_short, named_record}
use Rattle.refusals.specs.Answer.{Answer, refused, given, refuse_if, and_then}
use Rattle.names.specs.Names.{name_size}
use Rattle.widths.specs.Table.{size_with, width_record_size, record_of, checked_table, old_table}

-- the first so many records of a table whose names have `from` bytes, with `to` zeros for a name: check sum and scale, the name, and all that stands behind it (rules 13.1, 13.2)
abbrev pub in_form : ℕ → ℕ → ℕ → List ℕ → List ℕ
in_form from to zero table = []
in_form from to (suc records) table =
    take 8 table ++ (replicate to 0 ++ (take 8 (drop (8 + from) table) ++ in_form from to records (drop (size_with from) table)))

-- 24 at the first of so many records from an index on whose name is not sixteen zeros (rule 13.3)
unfoldable pub unnamed_from : ℕ → List ℕ → ℕ → Answer ℕ
unnamed_from zero table index = given index
unnamed_from (suc left) table index =
    refuse_if (not (eqb (record_of table index).name 0)) named_record (index * width_record_size) (unnamed_from left table (suc index))

-- 17 where the area has no room for so many records (rules 9.11, 9.12)
abbrev pub with_room : ℕ → ℕ → ℕ → Answer ℕ
with_room room size records = refuse_if (ltb room (records * size)) area_too_short 0 (given records)

-- what widen_table answers, for an area of so many bytes: how many records (rule 9.11)
abbrev pub widen_table : List ℕ → ℕ → Answer ℕ
widen_table old room = and_then (old_table old) (with_room room (size_with name_size))

-- what narrow_table answers, for an area of so many bytes: how many records (rule 9.12)
abbrev pub narrow_table : List ℕ → ℕ → Answer ℕ
narrow_table table room = and_then (and_then (checked_table table) (λ records. unnamed_from records table 0)) (with_room room (size_with 0))

-- the area afterwards: the records in their other form, then what stood there; as it was where it is refused (rule 9.1)
abbrev pub converted_area : ℕ → ℕ → List ℕ → List ℕ → Answer ℕ → List ℕ
converted_area from to table entry (refused number place) = entry
converted_area from to table entry (given records) = in_form from to records table ++ drop (records * size_with to) entry

-- the area after widen_table (rule 9.11)
abbrev pub widened_area : List ℕ → List ℕ → Answer ℕ → List ℕ
widened_area old entry answer = converted_area 0 name_size old entry answer

-- the area after narrow_table (rule 9.12)
abbrev pub narrowed_area : List ℕ → List ℕ → Answer ℕ → List ℕ
narrowed_area table entry answer = converted_area name_size 0 table entry answer
