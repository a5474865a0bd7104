-- The file of chosen pages of an accepted file: it is accepted, how long it is, and which commands, fonts and units it has. Assumes nothing.
use Prim.Native.Nat.{ℕ, ◌+◌, ◌%◌, ◌≤◌, ◌<◌}
use mathlib.Core.Path.{◌≡◌, sym, ap, ◌∙◌, subst}
use mathlib.Core.Bool.{true, false}
use mathlib.Core.List.{List, ◌∷◌}
use native.Mathlib.Omega.{arith}
use lib.ListN.{length}
use lib.IntN.{ℤ}
use Rattle.refusals.specs.Answer.{given}
use Rattle.widths.specs.AsBytes.{Bytes}
use Rattle.commands.specs.declared.Kind.TheVariants.{PostPost}
use Rattle.commands.specs.Commands.{Command, kind_of_command, written, place}
use Rattle.commands.specs.Fields.{pre_num, pre_den, pre_mag}
use Rattle.commands.specs.Reading.{longest_file}
use Rattle.list.specs.declared.Stage.TheVariants.{AfterPost}
use Rattle.list.specs.Past.{stage, pages, post_place, num, den, mag, definition_of, font_count}
use Rattle.list.specs.Lawful.{Lawful, fillers}
use Rattle.list.proofs.Arms.{is_kind}
use Rattle.volume.specs.declared.Summary.{Summary}
use Rattle.volume.specs.Judged.{judged}
use Rattle.volume.specs.History.{history}
use Rattle.volume.proofs.History.{history_counts}
use Rattle.cutting.specs.Chosen.{is_in, wrong_list}
use Rattle.cutting.specs.CutList.{cut_past, fillers_at, onto, cut_list}
use Rattle.cutting.specs.CutFile.{cut_file}
use Rattle.rewritten.specs.OldWords.{new_number, deepest_on, pages_up_to}
use Rattle.rewritten.specs.Unplaced.{unplaced}
use Rattle.rewritten.proofs.Unwinding.{Old, old_commands}
use Rattle.rewritten.proofs.SoundLaws.{page_before_post}
use Rattle.rewritten.proofs.Allowing.{end_old}
use Rattle.rewritten.proofs.Numbers.{not_zero, some_page, all_counted}
use Rattle.rewritten.proofs.ByteLaws.{few_pages}
use Rattle.rewritten.proofs.AllPages.{up_to_has, up_to_length, up_to_right}
use Rattle.rewritten.proofs.CutTwice.{cut_twice}
use Rattle.rewritten.proofs.CutKeeps as of_list

-- equal counts
same_summary : {a b c d e f g h : ℕ} → a ≡ e → b ≡ f → c ≡ g → d ≡ h
    → ◌≡◌ {A = Summary} (record { pages = a; fonts = b; depth = c; post = d }) (record { pages = e; fonts = f; depth = g; post = h })
same_summary p q r t = cc

module _ (file : List ℕ) (s : Summary) (accepted : judged file ≡ given s) where
  -- the old file's commands
  abbrev pub old : Old file
  old = old_commands file s accepted

  abbrev past : List Command
  past = old.past

  abbrev end : Command
  end = old.end

  kind_there : kind_of_command end ≡ PostPost
  kind_there = is_kind (kind_of_command end) PostPost old.closed.last

  page_count : pages past ≡ s.pages
  page_count =
      let own : pages (end ∷ past) ≡ s.pages = ap pages (sym old.is_history) ∙ ap (λ (found : Summary). found.pages) (history_counts file s accepted) in
      rw kind_there at own

  font_count_lem : font_count false (end ∷ past) ≡ s.fonts
  font_count_lem = ap (font_count false) (sym old.is_history) ∙ ap (λ (found : Summary). found.fonts) (history_counts file s accepted)

  after_post : stage past ≡ AfterPost
  after_post = (end_old old.closed.allowed kind_there).0

  -- it has a page
  one_page_lem : 1 ≤ s.pages
  one_page_lem = omega (arith, page_count, page_before_post old.closed.sound after_post)

  module _ (bytes : Bytes file) (list : List ℕ) (right : wrong_list s.pages list ≡ false) where
    -- it has at most 65,535 pages
    pub few : pages past < 65536
    few =
        few_pages (end ∷ fillers old.count) old.closed.sound (subst Bytes (sym old.as_file) bytes) (rw after_post)

    -- page 0 is not chosen
    pub zero_out : is_in list 0 ≡ false
    zero_out = not_zero s.pages list right

    -- one page at least is
    pub some : 0 < new_number (is_in list) (pages past)
    some = rw page_count (some_page s.pages list right)

    counted : new_number (is_in list) (pages past) ≡ length list
    counted = ap (new_number (is_in list)) page_count ∙ all_counted s.pages list right

    new_is : cut_file file list ≡ written (cut_list (is_in list) (end ∷ past))
    new_is = ap (λ (l : List Command). written (cut_list (is_in list) l)) old.is_history

    past_is : cut_past (is_in list) (end ∷ past) ≡ cut_past (is_in list) (history file)
    past_is = ap (cut_past (is_in list)) (sym old.is_history)

    -- it is accepted: with as many pages as are chosen, as many fonts as before, the greatest depth on the chosen pages, and its own post (rule 12.6)
    pub cut_accepted_lem : judged (cut_file file list)
        ≡ given (record {
          pages = length list;
          fonts = s.fonts;
          depth = deepest_on (is_in list) (history file);
          post = post_place (cut_past (is_in list) (history file));
        })
    cut_accepted_lem =
        ap judged new_is
        ∙ of_list.cut_judged (is_in list) zero_out past end old.closed few some old.fits
        ∙ ap given (same_summary
        (of_list.cut_pages_kept (is_in list) zero_out past end old.closed few some old.fits ∙ counted)
        (of_list.cut_fonts (is_in list) zero_out past end old.closed few some old.fits ∙ font_count_lem)
        (of_list.cut_depth (is_in list) zero_out past end old.closed few some old.fits ∙ ap (deepest_on (is_in list)) (sym old.is_history))
        (ap post_place past_is))

    -- it is lawful (rule 12.6)
    pub cut_lawful : Lawful (cut_file file list)
    cut_lawful = subst Lawful (sym new_is) (of_list.cut_lawful (is_in list) zero_out past end old.closed few some old.fits)

    -- its length is a multiple of four, and at most three bytes above that of the old file (rule 12.5)
    pub cut_length : (length (cut_file file list) % 4 ≡ 0) × (length (cut_file file list) ≤ length file + 3)
    cut_length =
        subst (λ (l : List ℕ). (length l % 4 ≡ 0) × (length l ≤ length file + 3)) (sym new_is) (
          (of_list.cut_length (is_in list) zero_out past end old.closed few some old.fits).0,
          omega (arith, old.long, of_list.cut_longer (is_in list) zero_out past end old.closed few some old.fits old.count old.enough),
        )

    -- it is no longer than a file may be (rule 3.12)
    pub cut_short : length (cut_file file list) ≤ longest_file
    cut_short = cut_lawful.0

    -- its commands are those of the new list (rule 12.6)
    pub cut_history : history (cut_file file list) ≡ cut_past (is_in list) (history file)
    cut_history = ap history new_is ∙ of_list.cut_history (is_in list) zero_out past end old.closed few some old.fits ∙ past_is

    -- each font's definition before post is the same command (rule 12.6)
    pub cut_definitions : (number : ℤ) → unplaced (definition_of false number (history (cut_file file list))) ≡ unplaced (definition_of false number (history file))
    cut_definitions number =
        rw (cut_history, old.is_history) (of_list.cut_definitions (is_in list) zero_out past end old.closed few some old.fits number)

    -- num, den and mag are the same (rule 12.6)
    pub cut_units : (num (history (cut_file file list)) ≡ num (history file))
        × (den (history (cut_file file list)) ≡ den (history file))
        × (mag (history (cut_file file list)) ≡ mag (history file))
    cut_units =
        let same = of_list.cut_units (is_in list) zero_out past end old.closed few some old.fits in
        rw (cut_history, old.is_history) (same pre_num, same pre_den, same pre_mag)

    -- all pages of the new file are the new file (rule 12.6)
    pub cut_again : cut_file (cut_file file list) (pages_up_to (length list)) ≡ cut_file file list
    cut_again =
        let all : (page : ℕ) → 1 ≤ page → page ≤ new_number (is_in list) (pages past) → is_in (pages_up_to (length list)) page ≡ true =
        λ page low high. up_to_has (length list) page low (omega (arith, counted)) in
        ap (λ (l : List Command). written (cut_list (is_in (pages_up_to (length list))) l)) (cut_history ∙ sym past_is)
        ∙ ap (λ (l : List Command). written (onto l (fillers (fillers_at (place l)))))
        (cut_twice (is_in list) zero_out past end old.closed few some old.fits (is_in (pages_up_to (length list))) all)
        ∙ sym new_is

  -- cutting all pages once more changes nothing (rule 12.6)
  pub cut_all_twice : Bytes file → cut_file (cut_file file (pages_up_to s.pages)) (pages_up_to s.pages) ≡ cut_file file (pages_up_to s.pages)
  cut_all_twice bytes =
      let all = pages_up_to s.pages in
      ap (λ (n : ℕ). cut_file (cut_file file all) (pages_up_to n)) (sym (up_to_length s.pages)) ∙ cut_again bytes all (up_to_right s.pages one_page_lem)
