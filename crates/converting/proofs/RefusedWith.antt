-- Which numbers the two conversions are refused with, and at which places. Assumes nothing.
use Prim.Native.Nat.{ℕ, zero, suc, ◌+◌, ◌*◌, ◌≤◌}
use mathlib.Core.Path.{◌≡◌, refl}
use mathlib.Core.List.{List}
use mathlib.Core.Logic.{inl, inr}
use native.Mathlib.Omega.{arith}
use lib.Dec.{ltb}
use lib.ListN.{length}
use Rattle.refusals.specs.Numbers.{area_too_short, named_record}
use Rattle.refusals.specs.Answer.{Answer, refused, given, and_then}
use Rattle.refusals.specs.RefusedOnly.{RefusedOnly, TableRefusal, WidenRefusal, NarrowRefusal}
use Rattle.refusals.proofs.RefusedOnly.{if_only, then_only, only_wider}
use Rattle.names.specs.Names.{name_size}
use Rattle.widths.specs.Table.{size_with, width_record_size, checked_table, old_table}
use Rattle.widths.proofs.RefusedWith.{checked_refused_with, table_refused_with}
use Rattle.widths.proofs.TableLaws.{table_size}
use Rattle.converting.specs.Converting.{unnamed_from, with_room, widen_table, narrow_table}
use Rattle.converting.proofs.Unnamed.{named}

-- 14 at the first byte of an old record that begins in the table; 17 at 0
pub widen_refused_with : (old : List ℕ) (room : ℕ) → RefusedOnly (WidenRefusal (size_with 0) old) (widen_table old room)
widen_refused_with old room =
    let May = WidenRefusal (size_with 0) old in
    then_only May (old_table old) (with_room room (size_with name_size))
    (only_wider (TableRefusal (size_with 0) old) May (old_table old) (λ number place may. inl may) (checked_refused_with 0 old))
    (λ records. if_only May (ltb room (records * size_with name_size)) area_too_short 0 (given records) (inr (refl, refl)) tt)

module _ (table : List ℕ) where
  abbrev May : ℕ → ℕ → Type 0
  May = NarrowRefusal width_record_size table

  -- 24 at a record of the table
  unnamed_only : (left index : ℕ) → (index + left) * width_record_size ≤ length table → RefusedOnly May (unnamed_from left table index)
  unfolding unnamed_from
  unnamed_only zero index fits = tt
  unnamed_only (suc left) index fits =
      if_only May (named table index) named_record (index * width_record_size) (unnamed_from left table (suc index)) (inr (inl (refl, (index, refl), omega arith))) (unnamed_only left (suc index) (omega arith))

  judged_only : (answer : Answer ℕ) → checked_table table ≡ answer → RefusedOnly May answer → RefusedOnly May (and_then answer (λ records. unnamed_from records table 0))
  judged_only (refused number place) e may = may
  judged_only (given records) e may = unnamed_only records 0 (omega (arith, table_size name_size table records e))

  -- 14 and 24 at the first byte of a record in the table; 17 at 0
  pub narrow_refused_with : (room : ℕ) → RefusedOnly (NarrowRefusal width_record_size table) (narrow_table table room)
  narrow_refused_with room =
      then_only May (and_then (checked_table table) (λ records. unnamed_from records table 0)) (with_room room (size_with 0))
      (judged_only (checked_table table) refl (only_wider (TableRefusal width_record_size table) May (checked_table table) (λ number place may. inl may) (table_refused_with table)))
      (λ records. if_only May (ltb room (records * size_with 0)) area_too_short 0 (given records) (inr (inr (refl, refl))) tt)
