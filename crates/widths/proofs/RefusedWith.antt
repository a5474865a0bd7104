-- The refusals of a width table and of looking a character up. Assumes nothing.
use Prim.Native.Nat.{ℕ, zero, suc, ◌*◌}
use mathlib.Core.Path.{◌≡◌, refl}
use mathlib.Core.Bool.{Bool, true, false, cond, not}
use mathlib.Core.List.{List}
use lib.Dec.{leb}
use lib.IntN.{ℤ}
use lib.ListN.{length}
use borrow.Author.Tests.{leb-false}
use Rattle.refusals.specs.Numbers.{wrong_width_table}
use Rattle.refusals.specs.Answer.{given, refuse_if}
use Rattle.refusals.specs.RefusedOnly.{RefusedOnly, TableRefusal}
use Rattle.refusals.proofs.RefusedOnly.{if_only, then_only}
use Rattle.names.specs.Names.{name_size}
use Rattle.widths.specs.Table.{size_with, width_record_size, right_in, checked_from, checked_in, checked_table}
use Rattle.widths.specs.LookUp.{looked_up}

module _ (named : ℕ) (table : List ℕ) where
  abbrev size : ℕ
  size = size_with named

  -- what may be of a table, whatever the form of its records
  abbrev May : ℕ → ℕ → Type 0
  May = TableRefusal size table

  from_refused_with : (left index : ℕ) → RefusedOnly May (checked_from named left table index)
  unfolding checked_from
  from_refused_with zero index = tt
  from_refused_with (suc left) index = by (leb (length table) (index * size)) refl (from_refused_with left (suc index))
    where
      by : (over : Bool) → leb (length table) (index * size) ≡ over → RefusedOnly May (checked_from named left table (suc index))
          → RefusedOnly May (cond over (given index) (refuse_if (not (right_in named table index)) wrong_width_table (index * size) (checked_from named left table (suc index))))
      by true e rest = tt
      by false e rest =
          if_only May (not (right_in named table index)) wrong_width_table (index * size) (checked_from named left table (suc index))
          (refl, (index, refl), leb-false (length table) (index * size) e) rest

  pub checked_refused_with : RefusedOnly (TableRefusal (size_with named) table) (checked_in named table)
  checked_refused_with = from_refused_with (suc (length table)) 0

module _ (table : List ℕ) where
  -- 14 at the first byte of a record that begins in the table
  pub table_refused_with : RefusedOnly (TableRefusal width_record_size table) (checked_table table)
  table_refused_with = checked_refused_with name_size table

  -- as the table's check
  pub look_up_refused_with : (checksum scale : ℕ) (name : List ℕ) (code : ℤ) → RefusedOnly (TableRefusal width_record_size table) (looked_up table checksum scale name code)
  look_up_refused_with checksum scale name code = then_only (TableRefusal width_record_size table) (checked_table table) _ table_refused_with (λ records. tt)
