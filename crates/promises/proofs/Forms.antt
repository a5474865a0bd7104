-- Width tables in their other form: what calls of widen_table and narrow_table give, and that what they give is to the other entries what it was. Stated of the
-- contracts themselves. Assumes nothing.
use Rattle.std.proofs.Common.{Bor, MutBor}
use Prim.Native.Nat.{ℕ, ◌*◌, ◌≤◌}
use mathlib.Core.Path.{◌≡◌, sym, ap, fun_ext, subst, ◌∙◌}
use mathlib.Core.Bool.{Bool}
use mathlib.Core.List.{List}
use native.Mathlib.Omega.{arith}
use contract.Lifetimes.{Lfts}
use lib.IntN.{ℤ}
use lib.ListN.{length, take, drop}
use lib.Seq.{take_at, drop_at}
use borrow.Author.Tests.{le-ltb}
use Rattle.refusals.specs.Numbers.{no_such_page, area_too_short}
use Rattle.refusals.specs.Answer.{Answer, given, refuse_if, and_then, answered}
use Rattle.refusals.proofs.Answer.{given_same}
use Rattle.names.specs.Names.{name_size, name_number}
use Rattle.units.specs.declared.Ratio.{Ratio}
use Rattle.units.specs.Unit.{unit_of, drift}
use Rattle.widths.specs.AsBytes.{Bytes}
use Rattle.widths.specs.Table.{size_with, checked_in, checked_table, old_table}
use Rattle.widths.specs.LookUp.{LookUp, code_byte}
use Rattle.widths.proofs.TableLaws.{table_size}
use Rattle.converting.specs.Converting.{in_form, narrow_table, converted_area}
use Rattle.converting.specs.Named.{Unnamed, FirstNamed}
use Rattle.converting.proofs.Forms.{form_length}
use Rattle.converting.proofs.Named.{widen_given, narrow_given, narrow_named}
use Rattle.converting.proofs.Widened.{widened_right, widened_looks, narrowed_again, narrow_of_widened}
use Rattle.list.specs.Past.{num, den, mag}
use Rattle.volume.specs.declared.Summary.{Summary}
use Rattle.volume.specs.Judged.{judged}
use Rattle.volume.specs.History.{history}
use Rattle.state.specs.declared.Font.{Font}
use Rattle.state.specs.Registers.{fresh_state}
use Rattle.page.specs.PageList.{page_of}
use Rattle.turns.specs.Placing.{look_in, Contents, placing}
use Rattle.page.specs.Answers.{page_outside, with_room, placed_page, placed_counts, area_after}
use Rattle.reader.proofs.check_table.Reads as check-table
use Rattle.reader.proofs.widen_table.Reads as widen-table
use Rattle.reader.proofs.narrow_table.Reads as narrow-table
use Rattle.reader.proofs.place_page.Reads as place-page
use Rattle.promises.specs.OldTables.{old_look, old_placed_page, Converts}
use Rattle.std.specs.declared.result.Result.{Result}
use Rattle.std.specs.declared.result.Result.TheVariants.{Ok, Err}
use Rattle.refusals.specs.declared.Reason.{Reason}
use Rattle.refusals.specs.declared.Refusal.{Refusal}
use Rattle.placements.specs.declared.Counts.{Counts}
use Rattle.promises.proofs.OneToOne.{one_to_one}

-- ---- what a call gives

converts : (from to : ℕ) (table before after : List ℕ) (records : ℕ) → checked_in from table ≡ given records → records * size_with to ≤ length before
    → after ≡ converted_area from to table before (given records) → Converts from to table before after records
converts from to table before after records judged room is =
    let size = form_length from to records table (omega (arith, table_size from table records judged)) in
    record {
      room = room;
      front = ap (take (records * size_with to)) is ∙ take_at (in_form from to records table) (drop (records * size_with to) before) (records * size_with to) size;
      rest = ap (drop (records * size_with to)) is ∙ drop_at (in_form from to records table) (drop (records * size_with to) before) (records * size_with to) size;
    }

-- a call that gives so many records: the old table is right, with so many, and they stand in the new form at the area's front
pub widen_table_gives : (κs : Lfts 2) → (old area : _) → (records : ℕ) → (x : _) → widen-table.Post κs (old, (area, tt)) (Ok records) x
    → (old_table old.now ≡ given records) × Converts 0 name_size old.now area.now x.1.0.now records
widen_table_gives κs old area records x post =
    let both = (widen_given old.now (length area.now) records).0 (sym post.0) in
    (both.0, converts 0 name_size old.now area.now x.1.0.now records both.0 both.1 (post.1.0 ∙ ap (converted_area 0 name_size old.now area.now) (sym post.0)))

-- the same the other way: the table is right, none of its records has a name, and they stand in the old form at the area's front
pub narrow_table_gives : (κs : Lfts 2) → (table area : _) → (records : ℕ) → (x : _) → narrow-table.Post κs (table, (area, tt)) (Ok records) x
    → (checked_table table.now ≡ given records) × Unnamed table.now records × Converts name_size 0 table.now area.now x.1.0.now records
narrow_table_gives κs table area records x post =
    let all = (narrow_given table.now (length area.now) records).0 (sym post.0) in
    (all.0, all.1, converts name_size 0 table.now area.now x.1.0.now records all.0 all.2 (post.1.0 ∙ ap (converted_area name_size 0 table.now area.now) (sym post.0)))

-- what 24 refuses has a name: it is the first record with one, in a table that is right
pub narrow_table_names : (κs : Lfts 2) → (table area : _) → (place : ℕ) → (x : _) → narrow-table.Post κs (table, (area, tt)) (Err (record { reason = Reason.NamedRecord; place = place })) x
    → (records : ℕ) × (checked_table table.now ≡ given records) × FirstNamed table.now records place
narrow_table_names κs table area place x post = (narrow_named table.now (length area.now) place).0 (sym post.0)

-- ---- when a call gives records

-- an old table that is right is taken where the area has room
pub widen_table_takes : (κs : Lfts 2) → (old area : _) → (r : Result ℕ Refusal) → (x : _) → widen-table.Post κs (old, (area, tt)) r x
    → (records : ℕ) → old_table old.now ≡ given records → records * size_with name_size ≤ length area.now → r ≡ Ok records
widen_table_takes κs old area r x post records right room = one_to_one r (Ok records) (post.0 ∙ (widen_given old.now (length area.now) records).1 (right, room))

-- so is a right table without names
pub narrow_table_takes : (κs : Lfts 2) → (table area : _) → (r : Result ℕ Refusal) → (x : _) → narrow-table.Post κs (table, (area, tt)) r x
    → (records : ℕ) → checked_table table.now ≡ given records → Unnamed table.now records → records * size_with 0 ≤ length area.now → r ≡ Ok records
narrow_table_takes κs table area r x post records right none room =
    one_to_one r (Ok records) (post.0 ∙ (narrow_given table.now (length area.now) records).1 (right, none, room))

-- and every right table with a name is refused with 24, whatever the area
pub names_are_told : (κs : Lfts 2) → (table area : _) → (r : Result ℕ Refusal) → (x : _) → narrow-table.Post κs (table, (area, tt)) r x
    → (records place : ℕ) → checked_table table.now ≡ given records → FirstNamed table.now records place → r ≡ Err (record { reason = Reason.NamedRecord; place = place })
names_are_told κs table area r x post records place right first =
    one_to_one r (Err (record { reason = Reason.NamedRecord; place = place })) (post.0 ∙ (narrow_named table.now (length area.now) place).1 (records, right, first))

-- ---- the widened table and the other entries

module _ (old : List ℕ) (records : ℕ) (right : old_table old ≡ given records) where
  abbrev new : List ℕ
  new = in_form 0 name_size records old

  -- the check finds it right, with as many records
  pub widened_table_checked : Bytes old → (κs : Lfts 1) → (table : Bor (List ℕ)) → (r : Result ℕ Refusal) → (x : _) → table.now ≡ in_form 0 name_size records old → check-table.Post κs (table, tt) r x
      → answered r ≡ given records
  widened_table_checked bytes κs table r x is post = post ∙ ap checked_table is ∙ widened_right old records bytes right

  -- it goes back where the area has room
  pub widened_table_taken_back : Bytes old → (κs : Lfts 2) → (table : Bor (List ℕ)) → (area : MutBor (List ℕ)) → (r : Result ℕ Refusal) → (x : _) → table.now ≡ in_form 0 name_size records old → records * size_with 0 ≤ length area.now
      → narrow-table.Post κs (table, (area, tt)) r x → r ≡ Ok records
  widened_table_taken_back bytes κs table area r x is room post =
      one_to_one r (Ok records)
      (post.0 ∙ ap (λ (t : List ℕ). narrow_table t (length area.now)) is ∙ narrow_of_widened old records bytes right (length area.now)
      ∙ ap (λ (short : Bool). refuse_if short area_too_short 0 (given records)) (le-ltb (length area.now) (records * size_with 0) room))

  -- it is narrowed to the old table, byte by byte
  pub widened_table_narrowed : (κs : Lfts 2) → (table : Bor (List ℕ)) → (area : MutBor (List ℕ)) → (count : ℕ) → (x : _) → Bytes old → table.now ≡ in_form 0 name_size records old
      → narrow-table.Post κs (table, (area, tt)) (Ok count) x
      → (count ≡ records) × (take (records * size_with 0) x.1.0.now ≡ old)
  widened_table_narrowed κs table area count x bytes is post =
      let given-all = narrow_table_gives κs table area count x post in
      let same : count ≡ records = given_same count records (sym given-all.0 ∙ ap checked_table is ∙ widened_right old records bytes right) in (
        same,
        subst (λ (n : ℕ). take (n * size_with 0) x.1.0.now ≡ in_form name_size 0 n table.now) same given-all.2.front
            ∙ ap (in_form name_size 0 records) is ∙ narrowed_again old records right,
      )

  -- whatever a font is called, its characters are found as the old look-up finds them
  looks_same : look_in new records ≡ old_look old records
  looks_same = fun_ext (λ (font : Font). fun_ext (λ (code : ℤ). widened_looks old records right font.checksum font.scale (name_number font.name) (code_byte code)))

  -- every page places as the old look-up would have placed it
  pub widened_places : Bytes old → (file : List ℕ) (resolution page room : ℕ) → placed_page file (in_form 0 name_size records old) resolution page room ≡ old_placed_page file old resolution page room
  widened_places bytes file resolution page room =
      let past = history file in
      let walked : Summary → Ratio → (Font → ℤ → LookUp) → Answer Contents = λ found k look.
      refuse_if (page_outside page found.pages) no_such_page 0
      (and_then (placing (record { ruler = record { k = k; drift = drift resolution }; look = look; volume = past; page = page }) fresh_state (page_of page past)) (with_room room)) in
      let by : Answer ℕ → (ℕ → Font → ℤ → LookUp) → Answer Contents = λ judgement look.
      and_then (judged file) (λ found. and_then (unit_of (num past) (den past) (mag past) resolution) (λ k. and_then judgement (λ rows. walked found k (look rows)))) in
      ap (λ (a : Answer ℕ). by a (look_in new)) (widened_right old records bytes right)
      ∙ ap (λ (look : Font → ℤ → LookUp). by (given records) (λ rows. look)) looks_same
      ∙ ap (λ (a : Answer ℕ). by a (old_look old)) (sym right)

  -- the same of a call: its counts or its refusal, and every byte of the area
  pub widened_page_placed : Bytes old → (κs : Lfts 3) → (file table : Bor (List ℕ)) → (area : MutBor (List ℕ)) → (resolution page : ℕ) → (r : Result Counts Refusal) → (x : _) → table.now ≡ in_form 0 name_size records old
      → place-page.Post κs (file, (table, (resolution, (page, (area, tt))))) r x
      → (answered r ≡ placed_counts (old_placed_page file.now old resolution page (length area.now)))
      × (x.1.1.1.1.0.now ≡ area_after area.now (old_placed_page file.now old resolution page (length area.now)))
  widened_page_placed bytes κs file table area resolution page r x is post =
      let same : placed_page file.now table.now resolution page (length area.now) ≡ old_placed_page file.now old resolution page (length area.now) =
      ap (λ (t : List ℕ). placed_page file.now t resolution page (length area.now)) is ∙ widened_places bytes file.now resolution page (length area.now) in
      (post.0 ∙ ap placed_counts same, post.1.0 ∙ ap (area_after area.now) same)
