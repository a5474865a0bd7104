-- Each page of the file of chosen pages places as in the old file, with its new number, and 16 at the same command. Assumes nothing.
use Prim.Native.Nat.{ℕ, ◌+◌, ◌*◌, ◌≤◌}
use mathlib.Core.Path.{◌≡◌, refl, sym, ap, ◌∙◌, subst}
use mathlib.Core.Bool.{Bool, true, false, cond}
use mathlib.Core.List.{List, ◌∷◌, ◌++◌}
use native.Mathlib.Omega.{arith}
use lib.Dec.{ltb, eqb}
use lib.ListN.{length, length-map}
use lib.IntN.{ℤ}
use borrow.Author.Tests.{le-leb, ne_eqb}
use Rattle.refusals.specs.Numbers.{position_out_of_range, area_too_short}
use Rattle.refusals.specs.Answer.{Answer, refused, given, refuse_if, and_then}
use Rattle.refusals.specs.RefusedOnly.{RefusedOnly}
use Rattle.refusals.proofs.Answer.{given_not_refused}
use Rattle.units.specs.Unit.{unit_of}
use Rattle.widths.specs.AsBytes.{Bytes}
use Rattle.widths.specs.Table.{checked_table}
use Rattle.commands.specs.Commands.{Command}
use Rattle.list.specs.Past.{num, den, mag, definition_of}
use Rattle.volume.specs.declared.Summary.{Summary}
use Rattle.volume.specs.Judged.{judged}
use Rattle.volume.specs.History.{history}
use Rattle.state.specs.Registers.{fresh_state}
use Rattle.placements.specs.declared.Counts.{Counts}
use Rattle.placements.specs.Records.{placement_record_size}
use Rattle.page.specs.PageList.{page_of}
use Rattle.turns.specs.Placing.{Contents, placing}
use Rattle.page.specs.Answers.{page_outside, setting_in, with_room, placed_in, placed_accepted, placed_page, counts_of, placed_counts}
use Rattle.cutting.specs.Chosen.{is_in, wrong_list}
use Rattle.cutting.specs.CutFile.{cut_file}
use Rattle.rewritten.specs.OldWords.{new_number, new_place}
use Rattle.rewritten.specs.Unplaced.{unplaced}
use Rattle.rewritten.specs.Renumbered.{record_on, contents_on, renumbered}
use Rattle.rewritten.specs.SameCommand.{SameCommand}
use Rattle.rewritten.proofs.Unwinding.{Old}
use Rattle.rewritten.proofs.Along.{number_positive}
use Rattle.rewritten.proofs.Numbers.{in_range, number_le, all_counted, nth_number}
use Rattle.rewritten.proofs.CutAccepted.{old, few, zero_out, some, cut_accepted_lem, cut_history, cut_definitions, cut_units}
use Rattle.rewritten.proofs.Likeness.{moved_commands, places_renumbered}
use Rattle.rewritten.proofs.Standing.{IsAmong, Standing, standing, same_command}
use Rattle.rewritten.proofs.CutPages.{page_cut}
use Rattle.rewritten.proofs.RangeRefusal.{IsOther, unit_other, table_other, left_at}

-- ---- answers renumbered

module _ (page : ℕ) (moved : ℕ → ℕ) where
  -- a refusal with another number than 16 stays what it is
  other_kept : (number at : ℕ) → IsOther number at → renumbered page moved (refused number at) ≡ refused number at
  other_kept number at other = rw other

  -- what goes on renumbered
  then_renumbered : {A : Type 0} (x : Answer A) (new old : A → Answer Contents) → RefusedOnly IsOther x → ((a : A) → new a ≡ renumbered page moved (old a))
      → and_then x new ≡ renumbered page moved (and_then x old)
  then_renumbered (refused number at) new old other same = sym (other_kept number at other)
  then_renumbered (given a) new old other same = same a

  -- the same number of records fits into the same area
  room_renumbered : (room : ℕ) (x : Answer Contents) → and_then (renumbered page moved x) (with_room room) ≡ renumbered page moved (and_then x (with_room room))
  room_renumbered room (refused number at) = refl
  room_renumbered room (given p) =
      ap (λ (n : ℕ). refuse_if (ltb room (placement_record_size * n)) area_too_short 0 (given (contents_on page p))) (length-map p.placements (record_on page))
      ∙ by (ltb room (placement_record_size * length p.placements))
    where
      by : (short : Bool) → refuse_if short area_too_short 0 (given (contents_on page p)) ≡ renumbered page moved (refuse_if short area_too_short 0 (given p))
      by true = refl
      by false = refl

  -- a page of another volume with the same units and fonts, whose commands are those of the old page, moved
  in_renumbered : (old new : List Command) (table : List ℕ) (resolution before room m n : ℕ)
      → (num new ≡ num old) × (den new ≡ den old) × (mag new ≡ mag old)
      → ((number : ℤ) → unplaced (definition_of false number new) ≡ unplaced (definition_of false number old))
      → page_of page new ≡ moved_commands moved (page_of before old) → page_outside before m ≡ false → page_outside page n ≡ false
      → placed_in new table resolution page room n ≡ renumbered page moved (placed_in old table resolution before room m)
  in_renumbered old new table resolution before room m n (e1, e2, e3) fonts commands inside also =
      rw (e1, e2, e3, inside, also)
      (then_renumbered (unit_of (num old) (den old) (mag old) resolution) _ _ (unit_other (num old) (den old) (mag old) resolution) (λ k.
      then_renumbered (checked_table table) _ _ (table_other table) (λ rows.
      ap (λ (x : Answer Contents). and_then x (with_room room))
      (ap (placing (setting_in new table k resolution rows page) fresh_state) commands
      ∙ places_renumbered (setting_in old table k resolution rows before) new page fonts moved fresh_state (page_of before old))
      ∙ room_renumbered room (placing (setting_in old table k resolution rows before) fresh_state (page_of before old)))))

  -- the counts of what is given
  counts_given : (x : Answer Contents) (counts : Counts) → placed_counts x ≡ given counts → placed_counts (renumbered page moved x) ≡ given counts
  counts_given (refused number at) counts e = absurd (given_not_refused counts number at (sym e))
  counts_given (given p) counts e =
      ap (λ (n : ℕ). given (record { records = n; missing = p.missing_characters; specials = p.specials })) (length-map p.placements (record_on page)) ∙ e

  -- the number of what is refused
  number_refused : (x : Answer Contents) (number at : ℕ) → placed_counts x ≡ refused number at → (there : ℕ) × (placed_counts (renumbered page moved x) ≡ refused number there)
  number_refused (refused n place) number at e =
      let same : n ≡ number = cc in
      let there = cond (eqb n position_out_of_range) (moved place) place in
      (there, ap (λ (m : ℕ). refused m there) same)
  number_refused (given p) number at e = absurd (given_not_refused (counts_of p) number at e)

-- ---- files

-- a page of the file is not outside it
inside : (page count : ℕ) → 1 ≤ page → page ≤ count → page_outside page count ≡ false
inside page count low high = rw (le-leb 1 page low, le-leb page count high)

module _ (file : List ℕ) (s : Summary) (accepted : judged file ≡ given s) (bytes : Bytes file) (list : List ℕ) (right : wrong_list s.pages list ≡ false) where
  abbrev was : Old file
  was = old file s accepted

  -- a chosen page's commands, in the new file's list
  page_there : (page : ℕ) → is_in list page ≡ true
      → page_of (new_number (is_in list) page) (history (cut_file file list)) ≡ moved_commands (new_place (is_in list) (history file)) (page_of page (history file))
  page_there page t =
      rw (cut_history file s accepted bytes list right, was.is_history)
      (page_cut (is_in list) (zero_out file s accepted bytes list right) was.past was.end was.closed (few file s accepted bytes list right)
      (some file s accepted bytes list right) was.fits page t)

  -- a chosen page, by its new number
  chosen_places : (table : List ℕ) (resolution room page : ℕ) → is_in list page ≡ true
      → placed_page (cut_file file list) table resolution (new_number (is_in list) page) room
      ≡ renumbered (new_number (is_in list) page) (new_place (is_in list) (history file)) (placed_page file table resolution page room)
  chosen_places table resolution room page t =
      let number = new_number (is_in list) page in
      let moved = new_place (is_in list) (history file) in
      let (low, high) = in_range s.pages list right page t in
      ap (λ (x : Answer Summary). and_then x (λ found. placed_accepted (cut_file file list) table resolution number room found.pages)) (cut_accepted_lem file s accepted bytes list right)
      ∙ in_renumbered number moved (history file) (history (cut_file file list)) table resolution page room s.pages (length list)
      (cut_units file s accepted bytes list right) (cut_definitions file s accepted bytes list right) (page_there page t)
      (inside page s.pages low high)
      (inside number (length list) (number_positive (is_in list) page (zero_out file s accepted bytes list right) t)
      (omega (arith, number_le (is_in list) page s.pages high, all_counted s.pages list right)))
      ∙ sym (ap (λ (x : Answer Summary). renumbered number moved (and_then x (λ found. placed_accepted file table resolution page room found.pages))) accepted)

  module _ (front : List ℕ) (page : ℕ) (rest : List ℕ) (is_list : list ≡ front ++ (page ∷ rest)) (table : List ℕ) (resolution room : ℕ) where
    abbrev moved : ℕ → ℕ
    moved = new_place (is_in list) (history file)

    -- what placing the page answers of the old file
    abbrev pub old_answer : Answer Contents
    old_answer = placed_page file table resolution page room

    -- and of the new one, in which its number is its place in the list
    abbrev pub new_answer : Answer Contents
    new_answer = placed_page (cut_file file list) table resolution (length front + 1) room

    -- they are the same but for the number in the records and the place of 16 (rule 12.6)
    pub cut_places : new_answer ≡ renumbered (length front + 1) (new_place (is_in list) (history file)) old_answer
    cut_places =
        let (t, nth) = nth_number s.pages list right front page rest is_list in
        subst (λ (n : ℕ). placed_page (cut_file file list) table resolution n room ≡ renumbered n moved old_answer) nth (chosen_places table resolution room page t)

    -- where the old page is placed, the new one has the same records, with its own number, and the same counts (rule 12.6)
    pub same_records_lem : (p : Contents) → old_answer ≡ given p → new_answer ≡ given (contents_on (length front + 1) p)
    same_records_lem p e = cut_places ∙ ap (renumbered (length front + 1) moved) e

    -- where the old page is placed, the counts of both are equal (rule 12.6)
    pub same_counts : (counts : Counts) → placed_counts old_answer ≡ given counts → placed_counts new_answer ≡ given counts
    same_counts counts e = ap placed_counts cut_places ∙ counts_given (length front + 1) moved old_answer counts e

    -- where the old page is refused, the new one is refused with the same number (rule 12.6)
    pub same_number : (number at : ℕ) → placed_counts old_answer ≡ refused number at → (there : ℕ) × (placed_counts new_answer ≡ refused number there)
    same_number number at e =
        subst (λ (x : Answer Contents). (there : ℕ) × (placed_counts x ≡ refused number there)) (sym cut_places)
        (number_refused (length front + 1) moved old_answer number at e)

    -- a refusal with another number than 16 has the same place (rule 12.6)
    pub same_refusal : (number at : ℕ) → (number ≡ position_out_of_range → ⊥) → old_answer ≡ refused number at → new_answer ≡ refused number at
    same_refusal number at other e =
        cut_places ∙ ap (renumbered (length front + 1) moved) e ∙ other_kept (length front + 1) moved number at (ne_eqb number position_out_of_range other)

    -- 16 is at the command's new place (rule 12.6)
    pub leaves_there : (at : ℕ) → old_answer ≡ refused position_out_of_range at → new_answer ≡ refused position_out_of_range (new_place (is_in list) (history file) at)
    leaves_there at e = cut_places ∙ ap (renumbered (length front + 1) moved) e

    -- there the very same command stands in the new file (rule 12.6)
    pub leaves_at_same : (at : ℕ) → old_answer ≡ refused position_out_of_range at → SameCommand (history file) (history (cut_file file list)) (is_in list) at
    leaves_at_same at e =
        let judged-first : old_answer ≡ placed_accepted file table resolution page room s.pages =
        ap (λ (x : Answer Summary). and_then x (λ found. placed_accepted file table resolution page room found.pages)) accepted in
        let (c, plain, among) = left_at (history file) table resolution page room s.pages (sym judged-first ∙ e) in
        same_command (history file) (history (cut_file file list)) (is_in list) (cut_history file s accepted bytes list right)
        (nth_number s.pages list right front page rest is_list).0 plain
        (subst (Standing page at c) (sym was.is_history)
        (standing page at c was.closed (subst (λ (l : List Command). IsAmong at c (page_of page l)) was.is_history among)))
