-- What the s of post comes to. An accepted file's is not below the depth that its commands reach. With another in its place the check answers the same, or 10
-- at post where that one is below; and names and placing are the same where it is not. Assumes nothing.
use Prim.Native.Nat.{ℕ, ◌+◌, ◌*◌, ◌/◌, ◌%◌, ◌<◌, ◌≤◌}
use mathlib.Core.Path.{◌≡◌, refl, sym, ap, ap₂, ◌∙◌, subst}
use mathlib.Core.Bool.{false}
use mathlib.Core.List.{List, []}
use mathlib.Core.Logic.{inr, ⊎_elim}
use native.Mathlib.Omega.{arith}
use lib.Dec.{ltb}
use lib.IntN.{ℤ}
use lib.ListN.{length, get_or, set, length-set}
use lib.Seq.{set-get_or}
use borrow.Author.Tests.{lt-ltb, le-ltb}
use contract.Lifetimes.{Lfts}
use Rattle.refusals.specs.Numbers.{wrong_postamble}
use Rattle.refusals.specs.Answer.{refused, given, refuse_if, answered}
use Rattle.numbers.proofs.Bytes.{unsigned_more, unsigned_one, unsigned_drop}
use Rattle.commands.specs.Commands.{Command, written}
use Rattle.commands.specs.Reading.{longest_file}
use Rattle.numbers.proofs.Radix.{less_or_not}
use Rattle.list.specs.Past.{greatest}
use Rattle.list.specs.Lawful.{Keeps, Lawful}
use Rattle.volume.specs.declared.Summary.{Summary}
use Rattle.volume.specs.Judged.{judged}
use Rattle.volume.specs.History.{history}
use Rattle.volume.specs.Names.{named_by, name_place, name_of}
use Rattle.volume.specs.OfList.{past_of, counts}
use Rattle.volume.specs.Refusing.{RefusesAt}
use Rattle.volume.proofs.Accepts.{accepts_lawful, counts_own, refused_given}
use Rattle.volume.proofs.Refused.{refuses_file}
use Rattle.page.specs.Answers.{placed_page, placed_counts, area_after}
use Rattle.page.proofs.Traces.{accepted_trace}
use Rattle.reader.proofs.check_file.Reads as check-file
use Rattle.reader.proofs.font_name.Reads as font-name
use Rattle.reader.proofs.place_page.Reads as place-page
use Rattle.promises.specs.Calls.{Arguments, file, table, resolution, page, area, meant}
use Rattle.promises.specs.StatedDepth.{stated_depth, stating}
use Rattle.promises.proofs.Agreeing.{Agree, same_summary, same_placed}
use Rattle.promises.proofs.OfTheList.{history_of_the_list, checked_by_the_list}
use Rattle.promises.proofs.NameBytes.{name_in, named_bytes}
use Rattle.promises.proofs.Restating.{stated, storing, Restated, restate}
use Rattle.std.specs.declared.result.Result.{Result}
use Rattle.refusals.specs.declared.Refusal.{Refusal}
use Rattle.placements.specs.declared.Counts.{Counts}
use Rattle.reader.specs.declared.FontName.{FontName}
use Rattle.std.specs.Prelude.{IfOk}
use Rattle.promises.proofs.OneToOne.{one_to_one, part_one_to_one}
use Rattle.promises.specs.Named.{part_named}

-- ---- the definitions

-- two bytes stored in the place of s
module _ (high low : ℕ) where
  module _ (file : List ℕ) (found : Summary) (accepted : judged file ≡ given found) where
    abbrev changed : List ℕ
    changed = storing high low found.post file

    list_of : Lawful file
    list_of = accepts_lawful file found accepted

    abbrev cs : List Command
    cs = list_of.1.0

    found_is : found ≡ counts cs
    found_is = counts_own file found accepted cs list_of.1.1 list_of.1.2

    other_list : Restated high low [] cs
    other_list = restate high low list_of.1.1 refl

    depth_is : found.depth ≡ greatest (past_of cs)
    depth_is = ap (λ (s : Summary). s.depth) found_is

    skip_is : other_list.skip ≡ found.post
    skip_is = sym (ap (λ (s : Summary). s.post) found_is ∙ other_list.post_at ∙ omega arith)

    written_so : written other_list.list ≡ changed
    written_so = other_list.forms ∙ ap (λ (at : ℕ). storing high low at (written cs)) skip_is ∙ ap (storing high low found.post) list_of.1.2

    no_longer : length changed ≤ longest_file
    no_longer = omega (arith, list_of.0, length-set (set file (found.post + 1 + 24) high) (found.post + 1 + 24 + 1) low, length-set file (found.post + 1 + 24) high)

    module _ (h : found.depth ≤ stated high low) where
      other_kept : Keeps other_list.list × Agree (past_of cs) (past_of other_list.list)
      other_kept = other_list.goes_on (omega (arith, depth_is))

      -- a later command finds the same in both histories
      same_history : Agree (history file) (history changed)
      same_history =
          subst (λ (past : List Command). Agree past (history changed))
          (sym (history_of_the_list file cs list_of.1.1 list_of.1.2 list_of.0))
          (subst (Agree (past_of cs)) (sym (history_of_the_list changed other_list.list other_kept.0 written_so no_longer)) other_kept.1)

      same_answer : judged changed ≡ given found
      same_answer = checked_by_the_list changed other_list.list other_kept.0 written_so no_longer ∙ ap given (sym (found_is ∙ same_summary other_kept.1))

    refused_so : stated high low < found.depth → judged changed ≡ refused wrong_postamble found.post
    refused_so h =
        refuses_file changed wrong_postamble found.post
        (inr (
          no_longer,
          subst (λ (bytes : List ℕ). RefusesAt [] bytes wrong_postamble found.post) written_so
              (subst (RefusesAt [] (written other_list.list) wrong_postamble) (omega (arith, skip_is)) (other_list.is_refused (omega (arith, depth_is)))),
        ))

-- s in two bytes is s
two_bytes : (s : ℕ) → stated (s / 256) (s % 256) ≡ s
two_bytes s = omega arith

module _ (s : ℕ) (file : List ℕ) (found : Summary) (accepted : judged file ≡ given found) where
  module _ (enough : found.depth ≤ s) where
    large : found.depth ≤ stated (s / 256) (s % 256)
    large = omega (arith, two_bytes s)

    -- an s that is not too small changes nothing: neither what the check answers (rules 3.8, 9.2),
    pub other_s_same : judged (stating s found.post file) ≡ given found
    other_s_same = same_answer (s / 256) (s % 256) file found accepted large

    -- nor where a font's name is (rule 9.4),
    pub other_s_named : (font : ℤ) → name_place (stating s found.post file) font ≡ name_place file font
    other_s_named font =
        rw (accepted, other_s_same) (ap named_by (sym ((same_history (s / 256) (s % 256) file found accepted large).same_definition false font)))

    -- nor its bytes,
    pub other_s_spelled : (font : ℤ) → name_of (stating s found.post file) font ≡ name_of file font
    other_s_spelled font =
        let changed = stating s found.post file in
        let same = (same_history (s / 256) (s % 256) file found accepted large).same_definition false font in
        rw (accepted, other_s_same)
        (named_bytes changed (history changed) (accepted_trace changed found other_s_same) false font
        ∙ ap name_in (sym same)
        ∙ sym (named_bytes file (history file) (accepted_trace file found accepted) false font))

    -- nor how a page is placed (rule 9.8)
    pub other_s_placed : (table : List ℕ) (resolution page room : ℕ)
        → placed_page (stating s found.post file) table resolution page room ≡ placed_page file table resolution page room
    other_s_placed table resolution page room =
        rw (accepted, other_s_same)
        (sym (same_placed (same_history (s / 256) (s % 256) file found accepted large) table resolution page room found.pages))

  -- the check with any s: the same answer, or 10 at post where s is below the depth that is reached (rules 3.8, 9.2)
  pub other_s_judged : judged (stating s found.post file) ≡ refuse_if (ltb s found.depth) wrong_postamble found.post (given found)
  other_s_judged =
      ⊎_elim
      (λ (h : s < found.depth). rw (lt-ltb s found.depth h) (refused_so (s / 256) (s % 256) file found accepted (omega (arith, h, two_bytes s))))
      (λ (h : found.depth ≤ s). rw (le-ltb s found.depth h) (other_s_same h))
      (less_or_not s found.depth)

-- s of an accepted file is not below the depth that its commands reach, else the file with its own s would be refused (rule 3.8)
pub stated_not_below : (file : List ℕ) (found : Summary) → judged file ≡ given found → found.depth ≤ stated_depth file found.post
stated_not_below file found accepted =
    ⊎_elim (λ below. absurd (contradiction below)) (λ (h : found.depth ≤ stated high low). omega (arith, h, own-bytes)) (less_or_not (stated high low) found.depth)
  where
    at : ℕ
    at = found.post + 1 + 24

    high : ℕ
    high = get_or file at 0

    low : ℕ
    low = get_or file (at + 1) 0

    own-bytes : stated_depth file found.post ≡ stated high low
    own-bytes = unsigned_drop file (found.post + 1) 24 2 ∙ unsigned_more file at 1 ∙ ap (λ (n : ℕ). n * 256 + low) (unsigned_one file at)

    itself : storing high low found.post file ≡ file
    itself = ap (λ (l : List ℕ). set l (at + 1) low) (set-get_or file at 0) ∙ set-get_or file (at + 1) 0

    contradiction : stated high low < found.depth → ⊥
    contradiction below = refused_given (sym (ap judged itself) ∙ refused_so high low file found accepted below) accepted

-- ---- the contracts

-- check_file: what it accepts states enough
pub accepted_states_enough : (κs : Lfts 1) (lent : _) (r : Result Summary Refusal) (x : _) → check-file.Post κs (lent, tt) r x
    → (found : Summary) → answered r ≡ given found → found.depth ≤ stated_depth lent.now found.post
accepted_states_enough κs lent r x post found says = stated_not_below lent.now found (sym post.0 ∙ says)

-- check_file, of a file that it accepts and of one with another s: the same answer, or 10 at post where that s is below the depth
module _ (κs κs' : Lfts 1) (lent changed : _) (r r' : Result Summary Refusal) (x y : _) (post : check-file.Post κs (lent, tt) r x) (post' : check-file.Post κs' (changed, tt) r' y) where
  module _ (found : Summary) (says : answered r ≡ given found) (s : ℕ) (only-s : changed.now ≡ stating s found.post lent.now) where
    pub other_s_checked : answered r' ≡ refuse_if (ltb s found.depth) wrong_postamble found.post (given found)
    other_s_checked = post'.0 ∙ ap judged only-s ∙ other_s_judged s lent.now found (sym post.0 ∙ says)

    -- too large is no fault: the answer is that of the right s
    pub larger_s_same_answer : found.depth ≤ s → r' ≡ r
    larger_s_same_answer h = one_to_one r' r (post'.0 ∙ ap judged only-s ∙ other_s_same s lent.now found (sym post.0 ∙ says) h ∙ sym says)

-- font_name, of a file that is accepted and of one with another s that is not too small: the same bytes at the same place of the file, or the same refusal
pub larger_s_same_name : (κs κs' : Lfts 1) (lent changed : _) (font : ℤ) (r r' : Result FontName Refusal) (x y : _)
    → font-name.Post κs (lent, (font, tt)) r x → font-name.Post κs' (changed, (font, tt)) r' y
    → (found : Summary) → judged lent.now ≡ given found
    → (s : ℕ) → found.depth ≤ s → changed.now ≡ stating s found.post lent.now
    → part_named r' ≡ part_named r
larger_s_same_name κs κs' lent again font r r' x y p q found accepted s enough only-s =
    part_one_to_one _ r' r (q.0 ∙ ap (λ (file : List ℕ). name_place file font) only-s ∙ other_s_named s lent.now found accepted enough font ∙ sym p.0)
    (subst (λ (l : List ℕ). IfOk r' (λ name. name.bytes.now ≡ l)) (ap (λ (file : List ℕ). name_of file font) only-s ∙ other_s_spelled s lent.now found accepted enough font) q.1.0)
    p.1.0

-- place_page, of a file that is accepted and of one with another s that is not too small: the same answer and the same bytes
pub larger_s_same_page : (κs κs' : Lfts 3) (a b x y : Arguments) (r r' : Result Counts Refusal) → place-page.Post κs a r x → place-page.Post κs' b r' y
    → (found : Summary) → judged (file a) ≡ given found
    → (s : ℕ) → found.depth ≤ s → file b ≡ stating s found.post (file a)
    → table b ≡ table a → resolution b ≡ resolution a → page b ≡ page a → area b ≡ area a
    → (r' ≡ r) × (area y ≡ area x)
larger_s_same_page κs κs' a b x y r r' p q found accepted s enough only-s tables resolutions pages areas =
    let placed = other_s_placed s (file a) found accepted enough (table a) (resolution a) (page a) (length (area a)) in
    let same : meant b ≡ meant a = rw (only-s, tables, resolutions, pages, areas) placed in
    (one_to_one r' r (q.0 ∙ ap placed_counts same ∙ sym p.0), q.1.0 ∙ ap₂ area_after areas same ∙ sym p.1.0)
