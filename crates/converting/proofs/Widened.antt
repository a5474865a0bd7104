-- A width table in its other form: it is right, the same characters are found in it, and the way back gives the same bytes. Assumes nothing.
use Prim.Native.Nat.{ℕ, ◌*◌, ◌≤◌}
use mathlib.Core.Path.{◌≡◌, sym, ap, ◌∙◌}
use mathlib.Core.List.{List}
use native.Mathlib.Omega.{arith}
use lib.IntN.{ℤ}
use lib.ListN.{length}
use Rattle.refusals.specs.Answer.{Answer, given, and_then}
use Rattle.names.specs.Names.{name_size, name_number, sought_name}
use Rattle.widths.specs.AsBytes.{Bytes}
use Rattle.widths.specs.Table.{size_with, checked_in, checked_table, old_table}
use Rattle.widths.specs.LookUp.{code_byte, looked_for, looked_up, old_walk}
use Rattle.widths.proofs.TableLaws.{table_size}
use Rattle.converting.specs.Converting.{in_form, unnamed_from, with_room, widen_table, narrow_table}
use Rattle.converting.proofs.Alike.{no_number, none_by_number}
use Rattle.converting.proofs.Unnamed.{unnamed_all, unnamed_given}
use Rattle.converting.proofs.Conversions.{NoNames, any_name_lem, form_unnamed, form_walk, form_right, form_again}

-- a right table has the bytes of its records
whole : (named : ℕ) (table : List ℕ) (records : ℕ) → checked_in named table ≡ given records → records * size_with named ≤ length table
whole named table records judged = omega (arith, table_size named table records judged)

-- ---- an old table in the new form

module _ (old : List ℕ) (records : ℕ) where
  abbrev widened : List ℕ
  widened = in_form 0 name_size records old

  -- a name of no bytes is none
  none_old : NoNames 0 old records
  none_old index inside i h = absurd (omega arith)

  none_new : old_table old ≡ given records → NoNames name_size widened records
  none_new judged = form_unnamed 0 name_size records old none_old (whole 0 old records judged)

  -- a right old table in the new form is right, with as many records
  pub widened_right : Bytes old → old_table old ≡ given records → checked_table (in_form 0 name_size records old) ≡ given records
  widened_right bytes judged = form_right 0 name_size records old none_old bytes judged

  -- in the new form each character is found as it was in the old table, whatever name is sought
  pub widened_looks : old_table old ≡ given records → (checksum scale name byte : ℕ)
      → looked_for records (in_form 0 name_size records old) checksum scale name byte ≡ old_walk records old checksum scale byte
  widened_looks judged checksum scale name byte =
      any_name_lem name_size widened checksum scale byte records name (none_new judged)
      ∙ form_walk 0 name_size records old none_old (whole 0 old records judged) checksum scale 0 byte

  -- so look_up answers of it what a look-up in the old table finds
  pub widened_looks_up : Bytes old → old_table old ≡ given records → (checksum scale : ℕ) (name : List ℕ) (code : ℤ)
      → looked_up (in_form 0 name_size records old) checksum scale name code ≡ given (old_walk records old checksum scale (code_byte code))
  widened_looks_up bytes judged checksum scale name code =
      ap (λ (a : Answer ℕ). and_then a (λ n. given (looked_for n widened checksum scale (name_number (sought_name name)) (code_byte code)))) (widened_right bytes judged)
      ∙ ap given (widened_looks judged checksum scale (name_number (sought_name name)) (code_byte code))

  -- narrowed again, it is the old table, byte by byte
  pub narrowed_again : old_table old ≡ given records → in_form name_size 0 records (in_form 0 name_size records old) ≡ old
  narrowed_again judged = form_again 0 name_size records old none_old (table_size 0 old records judged)

  -- narrow_table takes it: only the room can be short
  pub narrow_of_widened : Bytes old → old_table old ≡ given records → (room : ℕ) → narrow_table (in_form 0 name_size records old) room ≡ with_room room (size_with 0) records
  narrow_of_widened bytes judged room =
      ap (λ (a : Answer ℕ). and_then (and_then a (λ n. unnamed_from n widened 0)) (with_room room (size_with 0))) (widened_right bytes judged)
      ∙ ap (λ (a : Answer ℕ). and_then a (with_room room (size_with 0))) (unnamed_given widened records 0 records (omega arith) (λ index inside. no_number name_size widened index (none_new judged index inside)))

-- ---- a new table without names in the old form

module _ (table : List ℕ) (records : ℕ) (judged : checked_table table ≡ given records) (unnamed : unnamed_from records table 0 ≡ given records) where
  none : NoNames name_size table records
  none index inside = none_by_number name_size table index ((unnamed_all table records 0 records (λ j h. absurd (omega arith)) unnamed).1 index inside)

  -- a right table without names in the old form is right there, with as many records
  pub narrowed_right : Bytes table → old_table (in_form name_size 0 records table) ≡ given records
  narrowed_right bytes = form_right name_size 0 records table none bytes judged

  -- in the old form each character is found as it was in the new table for every name
  pub narrowed_looks : (checksum scale name byte : ℕ) → old_walk records (in_form name_size 0 records table) checksum scale byte ≡ looked_for records table checksum scale name byte
  narrowed_looks checksum scale name byte =
      form_walk name_size 0 records table none (whole name_size table records judged) checksum scale 0 byte
      ∙ sym (any_name_lem name_size table checksum scale byte records name none)

  -- widened again, it is the same table, byte by byte
  pub widened_again : in_form 0 name_size records (in_form name_size 0 records table) ≡ table
  widened_again = form_again name_size 0 records table none (table_size name_size table records judged)

  -- widen_table takes it: only the room can be short
  pub widen_of_narrowed : Bytes table → (room : ℕ) → widen_table (in_form name_size 0 records table) room ≡ with_room room (size_with name_size) records
  widen_of_narrowed bytes room = ap (λ (a : Answer ℕ). and_then a (with_room room (size_with name_size))) (narrowed_right bytes)
