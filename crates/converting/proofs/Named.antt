-- When the two conversions are answered with records, and which record refusal 24 names. Assumes nothing.
use Prim.Native.Nat.{ℕ, ◌*◌, ◌≤◌}
use mathlib.Core.Path.{◌≡◌, ap, ◌∙◌}
use mathlib.Core.List.{List}
use mathlib.Core.Logic.{◌↔◌}
use native.Mathlib.Omega.{arith}
use lib.Dec.{ltb}
use Rattle.refusals.specs.Numbers.{area_too_short, named_record}
use Rattle.refusals.specs.Answer.{Answer, refused, given, and_then}
use Rattle.refusals.specs.RefusedOnly.{TableRefusal}
use Rattle.refusals.proofs.Answer.{given_not_refused, refused_next, then_given, then_refused}
use Rattle.refusals.proofs.RefusedOnly.{only_refused}
use Rattle.names.specs.Names.{name_size}
use Rattle.widths.specs.Table.{size_with, width_record_size, checked_table, old_table}
use Rattle.widths.proofs.RefusedWith.{table_refused_with}
use Rattle.converting.specs.Converting.{unnamed_from, with_room, widen_table, narrow_table}
use Rattle.converting.specs.Named.{Unnamed, FirstNamed}
use Rattle.converting.proofs.Answered.{answered_refused, answered_as}
use Rattle.converting.proofs.Unnamed.{unnamed_all, unnamed_given, unnamed_refused, unnamed_found}

-- an old table is widened just where it is right and the area has room for its records
pub widen_given : (old : List ℕ) (room records : ℕ) → (widen_table old room ≡ given records) ↔ ((old_table old ≡ given records) × (records * size_with name_size ≤ room))
widen_given old room records = answered_as (old_table old) room (size_with name_size) records

module _ (table : List ℕ) where
  -- what is judged before the room
  abbrev judged : Answer ℕ
  judged = and_then (checked_table table) (λ records. unnamed_from records table 0)

  -- it goes on from a right table
  judged_right : (records : ℕ) → checked_table table ≡ given records → judged ≡ unnamed_from records table 0
  judged_right records e = ap (λ (a : Answer ℕ). and_then a (λ n. unnamed_from n table 0)) e

  nothing : Unnamed table 0
  nothing j h = absurd (omega arith)

  -- a table is narrowed just where it is right, no record has a name, and the area has room for its records
  pub narrow_given : (room records : ℕ) → (narrow_table table room ≡ given records) ↔ ((checked_table table ≡ given records) × Unnamed table records × (records * size_with 0 ≤ room))
  narrow_given room records = (
    λ e.
        let (is, fits) = (answered_as judged room (size_with 0) records).0 e in
        let (n, right, last) = then_given (checked_table table) (λ n. unnamed_from n table 0) records is in
        let (count, none) = unnamed_all table n 0 records nothing last in
        let same : n ≡ records = omega arith in
        (right ∙ ap given same, none, fits),
    λ all. (answered_as judged room (size_with 0) records).1 (judged_right records all.0 ∙ unnamed_given table records 0 records (omega arith) all.1, all.2),
  )

  -- the check's own refusal is 14
  not_checked : (place : ℕ) → checked_table table ≡ refused named_record place → ⊥
  not_checked place e = omega (arith, (only_refused (TableRefusal width_record_size table) (checked_table table) e (table_refused_with table)).0)

  -- nor is it that of the room
  before_room : (room place : ℕ) (answer : Answer ℕ) → and_then answer (with_room room (size_with 0)) ≡ refused named_record place → answer ≡ refused named_record place
  before_room room place (refused number there) e = e
  before_room room place (given records) e =
      absurd (given_not_refused records named_record place (refused_next (ltb room (records * size_with 0)) area_too_short 0 named_record place (given records) (λ same. omega arith) e).1)

  -- 24 names the first record that has a name, and no other; and it is answered of every right table that has one
  pub narrow_named : (room place : ℕ) → (narrow_table table room ≡ refused named_record place) ↔ ((records : ℕ) × (checked_table table ≡ given records) × FirstNamed table records place)
  narrow_named room place = (
    λ e.
        let (records, right, last) = then_refused (checked_table table) (λ n. unnamed_from n table 0) named_record place (not_checked place) (before_room room place judged e) in
        (records, right, (unnamed_refused table records 0 records named_record place (omega arith) nothing last).1),
    λ found. answered_refused judged room (size_with 0) (judged_right found.0 found.1 ∙ unnamed_found table found.0 0 found.0 place (omega arith) found.2 (omega arith)),
  )
