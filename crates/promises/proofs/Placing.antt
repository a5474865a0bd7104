-- What an answer of place_page says of the page and of the output area. Stated of the contract itself. Assumes nothing.
use Prim.Native.Nat.{ℕ, ◌+◌, ◌*◌, ◌≤◌}
use mathlib.Core.Path.{◌≡◌, refl, sym, ap, ap₂, ◌∙◌, subst}
use mathlib.Core.List.{List, [], ◌∷◌, ◌++◌, map}
use native.Mathlib.Omega.{arith}
use lib.Dec.{ltb}
use lib.ListN.{length, take, drop, length-append, length-drop}
use lib.Seq.{take_at, drop_at}
use borrow.Author.Tests.{ltb-false}
use contract.Lifetimes.{Lfts}
use Rattle.refusals.specs.Numbers.{no_such_page, position_out_of_range, area_too_short}
use Rattle.refusals.specs.Answer.{Answer, refused, given, and_then}
use Rattle.refusals.specs.RefusedOnly.{FileRefusal, UnitRefusal, TableRefusal}
use Rattle.refusals.proofs.Answer.{given_not_refused, given_next, given_same, then_given, then_refused, refused_next}
use Rattle.refusals.proofs.RefusedOnly.{only_refused, file_numbers_lem, unit_numbers}
use Rattle.units.proofs.RefusedWith.{unit_refused_with}
use Rattle.widths.specs.Table.{width_record_size, checked_table}
use Rattle.widths.proofs.RefusedWith.{table_refused_with}
use Rattle.volume.specs.Judged.{judged}
use Rattle.volume.proofs.RefusedWith.{file_refused_with}
use Rattle.state.specs.Registers.{fresh_state}
use Rattle.placements.specs.declared.Record.{Record}
use Rattle.placements.specs.declared.Counts.{Counts}
use Rattle.placements.specs.Records.{placement_record_size, record_bytes, all_bytes}
use Rattle.turns.specs.Placing.{placing}
use Rattle.turns.specs.Placing as meaning
use Rattle.turns.specs.Counting.{character_found, character_missing, rule_visible, is_special, makes_record, count_of, those, said_by, said_of, LeavesAt}
use Rattle.page.specs.Answers.{page_outside, with_room, counts_of, placed_counts, area_after}
use Rattle.placements.proofs.Areas.{record_length}
use Rattle.turns.proofs.CountLaws.{records_counted, missing_counted, specials_counted, refused_place}
use Rattle.turns.proofs.CountLaws as counting
use Rattle.reader.proofs.place_page.Reads as place-page
use Rattle.promises.specs.Calls.{Arguments, file, table, resolution, page, area, meant, unit_here, own, Grounds, grounds_setting, seen_by}
use Rattle.std.specs.declared.result.Result.{Result}
use Rattle.std.specs.declared.result.Result.TheVariants.{Ok, Err}
use Rattle.refusals.specs.declared.Reason.{Reason}
use Rattle.refusals.specs.declared.Refusal.{Refusal}
use Rattle.std.specs.Prelude.{IsErr}
use mathlib.Core.Bool.{true≢false}
use Rattle.promises.proofs.OneToOne.{one_to_one}

-- records have 20 bytes each
all_length : (records : List Record) → length (all_bytes records) ≡ placement_record_size * length records
all_length [] = refl
all_length (r ∷ records) = omega (arith, length-append (record_bytes r) (all_bytes records), record_length r, all_length records)

-- ---- what a call was judged by

module _ (a : Arguments) where
  -- a page that is given was placed, and there is room
  pub placed_by_lem : (p : meaning.Contents) → meant a ≡ given p
      → (g : Grounds a) × (placing (grounds_setting a g) fresh_state (own a) ≡ given p) × (placement_record_size * length p.placements ≤ length (area a))
  placed_by_lem p e =
      let (found, accepted, e1) = then_given (judged (file a)) _ p e in
      let (k, unit_is, e2) = then_given (unit_here a) _ p e1 in
      let (n, table_is, e3) = then_given (checked_table (table a)) _ p e2 in
      let (there, e4) = given_next (page_outside (page a) found.pages) _ _ _ p e3 in
      let g : Grounds a = record { found = found; unit = k; rows = n; accepted = accepted; unit_is = unit_is; table_is = table_is; there = there } in
      let (q, placing-is, e5) = then_given (placing (grounds_setting a g) fresh_state (own a)) (with_room (length (area a))) p e4 in
      let (fits, e6) = given_next (ltb (length (area a)) (placement_record_size * length q.placements)) _ _ _ p e5 in
      let same : q ≡ p = given_same q p e6 in
      (g, placing-is ∙ ap given same, subst (λ (o : meaning.Contents). placement_record_size * length o.placements ≤ length (area a)) same (ltb-false (length (area a)) _ fits))

  -- a page that is refused by 16 passed all that is judged before
  left_by : (place : ℕ) → meant a ≡ refused position_out_of_range place
      → (g : Grounds a) × (placing (grounds_setting a g) fresh_state (own a) ≡ refused position_out_of_range place)
  left_by place e =
      let (found, accepted, e1) = then_refused (judged (file a)) _ position_out_of_range place (λ early. omega (arith, file_numbers_lem (file a) (only_refused (FileRefusal (file a)) (judged (file a)) early (file_refused_with (file a))))) e in
      let (k, unit_is, e2) = then_refused (unit_here a) _ position_out_of_range place (λ early. omega (arith, unit_numbers (only_refused UnitRefusal (unit_here a) early (unit_refused_with _ _ _ (resolution a))))) e1 in
      let (n, table_is, e3) = then_refused (checked_table (table a)) _ position_out_of_range place (λ early. omega (arith, (only_refused (TableRefusal width_record_size (table a)) (checked_table (table a)) early (table_refused_with (table a))).0)) e2 in
      let (there, e4) = refused_next (page_outside (page a) found.pages) no_such_page 0 position_out_of_range place _ (λ z. omega arith) e3 in
      let g : Grounds a = record { found = found; unit = k; rows = n; accepted = accepted; unit_is = unit_is; table_is = table_is; there = there } in
      (g, before (placing (grounds_setting a g) fresh_state (own a)) e4)
    where
      before : (answer : Answer meaning.Contents) → and_then answer (with_room (length (area a))) ≡ refused position_out_of_range place → answer ≡ refused position_out_of_range place
      before (refused n at) e = ap₂ refused (cc) (cc)
      before (given q) e =
          let (fits, e1) = refused_next (ltb (length (area a)) (placement_record_size * length q.placements)) area_too_short 0 position_out_of_range place (given q) (λ z. omega arith) e in
          absurd (given_not_refused q position_out_of_range place e1)

-- ---- what the contract of a call says

module _ (κs : Lfts 3) (a x : Arguments) where
  -- where placing is refused, the area is as it was (rule 9.1)
  pub refused_leaves_area : (r : Result Counts Refusal) → place-page.Post κs a r x → IsErr r → area x ≡ area a
  refused_leaves_area (Ok counts) post refuses = absurd (true≢false (sym refuses))
  refused_leaves_area (Err why) post refuses = post.1.1

  -- 16 is given only where all that is judged before it passed, and its place is that of the first of the page's own
  -- commands at which h or v would leave its range
  pub sixteen_is_the_pages : (place : ℕ) → place-page.Post κs a (Err (record { reason = Reason.PositionOutOfRange; place = place })) x
      → (g : Grounds a) × LeavesAt (grounds_setting a g) place fresh_state (own a)
  sixteen_is_the_pages place post =
      let (g, left) = left_by a place (before (meant a) (sym post.0)) in
      (g, (refused_place (grounds_setting a g) fresh_state (own a) position_out_of_range place left).1)
    where
      before : (answer : Answer meaning.Contents) → placed_counts answer ≡ refused position_out_of_range place → answer ≡ refused position_out_of_range place
      before (refused n at) e = ap₂ refused (cc) (cc)
      before (given p) e = absurd (given_not_refused (counts_of p) position_out_of_range place e)

  module _ (counts : Counts) (post : place-page.Post κs a (Ok counts) x) where
    -- the page that was placed
    placed_page_lem : (p : meaning.Contents) × (meant a ≡ given p) × (counts_of p ≡ counts)
    placed_page_lem =
        let (p, is, e) = then_given (meant a) (λ p. given (counts_of p)) _ (sym post.0) in
        (p, is, given_same (counts_of p) _ e)

    -- the area's first bytes are those of the page's records, as many as the answer says, and all bytes after them are as they were (rules 8.1, 9.1)
    pub accepted_writes_only_records :
        (p : meaning.Contents)
        × (meant a ≡ given p)
        × (length p.placements ≡ counts.records)
        × (take (placement_record_size * counts.records) (area x) ≡ all_bytes p.placements)
        × (drop (placement_record_size * counts.records) (area x) ≡ drop (placement_record_size * counts.records) (area a))
        × (length (area x) ≡ length (area a))
    accepted_writes_only_records =
        let (p, is, same) = placed_page_lem in
        let many : length p.placements ≡ counts.records = ap (λ (c : Counts). c.records) same in
        let written = all_bytes p.placements in
        let rest = drop (placement_record_size * counts.records) (area a) in
        let area_is : area x ≡ written ++ rest = post.1.0 ∙ ap (area_after (area a)) is ∙ ap (λ (n : ℕ). written ++ drop (placement_record_size * n) (area a)) many in
        let size : length written ≡ placement_record_size * counts.records = all_length p.placements ∙ ap (λ (n : ℕ). placement_record_size * n) many in (
          p,
          is,
          many,
          ap (take (placement_record_size * counts.records)) area_is ∙ take_at written rest (placement_record_size * counts.records) size,
          ap (drop (placement_record_size * counts.records)) area_is ∙ drop_at written rest (placement_record_size * counts.records) size,
          ap length area_is ∙ omega (arith, length-append written rest, length-drop (placement_record_size * counts.records) (area a), size, (placed_by_lem a p is).2, many),
        )

    -- the counts are those of the page's own commands that make a record, are missing characters, are specials: none is invented (rule 8.3)
    pub counts_are_the_pages_own :
        (g : Grounds a)
        × (counts.records ≡ count_of rule_visible (seen_by a g) + count_of (character_found (grounds_setting a g)) (seen_by a g))
        × (counts.missing ≡ count_of (character_missing (grounds_setting a g)) (seen_by a g))
        × (counts.specials ≡ count_of is_special (seen_by a g))
    counts_are_the_pages_own =
        let (p, is, same) = placed_page_lem in
        let (g, placing-is, fits) = placed_by_lem a p is in (
          g,
          sym (ap (λ (c : Counts). c.records) same) ∙ records_counted (grounds_setting a g) fresh_state (own a) p placing-is,
          sym (ap (λ (c : Counts). c.missing) same) ∙ missing_counted (grounds_setting a g) fresh_state (own a) p placing-is,
          sym (ap (λ (c : Counts). c.specials) same) ∙ specials_counted (grounds_setting a g) fresh_state (own a) p placing-is,
        )

    -- no command is passed over: the area's records say, in order, what the page's commands that make one say (rule 8.3)
    pub records_in_order :
        (g : Grounds a)
        × (written : List Record)
        × (length written ≡ counts.records)
        × (take (placement_record_size * counts.records) (area x) ≡ all_bytes written)
        × (map said_by written ≡ map (said_of (grounds_setting a g)) (those (makes_record (grounds_setting a g)) (seen_by a g)))
    records_in_order =
        let (p, is, many, bytes, rest, long) = accepted_writes_only_records in
        let (g, placing-is, fits) = placed_by_lem a p is in
        (g, p.placements, many, bytes, counting.records_in_order (grounds_setting a g) fresh_state (own a) p placing-is)

-- nothing of an earlier call comes into this one: answer and area are settled by the arguments' bytes and numbers, wherever they stand
-- in memory, and by nothing else
pub depends_on_arguments : (κs κs' : Lfts 3) (a b x y : Arguments) (r s : Result Counts Refusal) → file a ≡ file b → table a ≡ table b → resolution a ≡ resolution b
    → page a ≡ page b
    → area a ≡ area b
    → place-page.Post κs a r x
    → place-page.Post κs' b s y
    → (r ≡ s) × (area x ≡ area y)
depends_on_arguments κs κs' a b x y r s files tables resolutions pages areas p q =
    let same : meant a ≡ meant b = cc in
    (one_to_one r s (p.0 ∙ ap placed_counts same ∙ sym q.0), p.1.0 ∙ ap₂ area_after areas same ∙ sym q.1.0)
