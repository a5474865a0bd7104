-- Each chosen page has, in the new list, the old page's commands without the definitions, at their new places. Assumes nothing.
use Prim.Native.Nat.{ℕ, ◌+◌, ◌≤◌, ◌<◌}
use mathlib.Core.Path.{◌≡◌, refl, sym, ap, ap₂, ◌∙◌, subst}
use mathlib.Core.Bool.{Bool, true, false, cond, not, ◌&&◌, true≢false, false≢true, and-false}
use mathlib.Core.List.{List, [], ◌∷◌, ◌++◌}
use native.Mathlib.Omega.{arith}
use lib.Dec.{eqb, ltb}
use borrow.Author.Tests.{ne_eqb}
use Rattle.commands.specs.declared.Kind.TheVariants.{Bop, Eop, Define, PostPost}
use Rattle.commands.specs.Commands.{Command, kind_of_command, place}
use Rattle.commands.specs.Reading.{longest_file}
use Rattle.list.specs.declared.Stage.TheVariants.{BeforePages, OnPage, BetweenPages}
use Rattle.list.specs.Past.{is_a, stage, is_on_page, is_after_post, pages}
use Rattle.list.specs.Rules.{Allowed}
use Rattle.list.proofs.Arms.{is_kind}
use Rattle.turns.specs.Placing.{Located}
use Rattle.page.specs.PageList.{is_on, page_of}
use Rattle.cutting.specs.CutList.{opening, mended, cut_after, cut_past}
use Rattle.cutting.proofs.Turning.{Outside, Inner, Turn, starts, idles, defines_early, begins, within, finishes, posts, idles_late, defines_again, ends, turn_of}
use Rattle.rewritten.specs.OldWords.{new_number, new_place_after, new_place}
use Rattle.rewritten.proofs.Unwinding.{Sound, start, more, Closed}
use Rattle.rewritten.proofs.Along.{Along, First, Needs, needs_down, along, number_positive}
use Rattle.rewritten.proofs.Numbers.{number_tells}
use Rattle.rewritten.proofs.CutKeeps.{old_end, as_first, as_needed, new_end_lem, cut_is}
use Rattle.rewritten.proofs.Likeness.{moved_commands}
use Rattle.rewritten.proofs.NewPlaces.{newest_place, place_kept, moved_define, moved_plain, moved_same}

-- no command of a page stands before its bop
page_empty : (page : ℕ) (past : List Command) → pages past < page → page_of page past ≡ []
page_empty page [] h = refl
page_empty page (c ∷ past) h =
    let before : pages past < page = by (is_a Bop c) h in
    let other : eqb (pages past) page ≡ false = ne_eqb (pages past) page (λ e. omega arith) in
    rw (other, and-false (is_on_page (stage past))) (page_empty page past before)
  where
    by : (bop : Bool) → cond bop (pages past + 1) (pages past) < page → pages past < page
    by true h = omega arith
    by false h = h

module _ (first : List Command) (chosen : ℕ → Bool) (none-zero : chosen 0 ≡ false) (i : ℕ) (this : chosen i ≡ true) where
  abbrev j : ℕ
  j = new_number chosen i

  abbrev Same : List Command → List Command → Type 0
  Same past n = page_of j n ≡ moved_commands (new_place_after first chosen past) (page_of i past)

  module _ {past : List Command} {c : Command} (allowed : Allowed past c) (a : Along first chosen past (cut_after first chosen past)) (same : Same past (cut_after first chosen past)) where
    abbrev new : List Command
    new = cut_after first chosen past

    abbrev next : List Command
    next = cut_after first chosen (c ∷ past)

    abbrev moved : ℕ → ℕ
    moved = new_place_after first chosen (c ∷ past)

    -- the places of the commands before are the same with this one
    kept : page_of j new ≡ moved_commands moved (page_of i past)
    kept = same ∙ moved_same i (new_place_after first chosen past) moved past (λ at h. sym (place_kept first chosen past c at h))

    -- a command that is none of the page's
    goes_by : next ≡ new → is_on i past c ≡ false → Same (c ∷ past) next
    goes_by e off = subst (Same (c ∷ past)) (sym e) (rw off kept)

    -- in neither list
    stays_off : (d : Command) → next ≡ d ∷ new → is_on i past c ≡ false → is_on j new d ≡ false → Same (c ∷ past) next
    stays_off d e off also = subst (Same (c ∷ past)) (sym e) (rw (off, also) kept)

    -- outside pages
    off_outside : (page : ℕ) (l : List Command) (d : Command) → is_on_page (stage l) ≡ false → is_on page l d ≡ false
    off_outside page l d e = rw e

    new_outside : Outside (stage past) → is_on_page (stage new) ≡ false
    new_outside out = by (ltb 0 (pages new)) (rw (out.early, out.closed) at a.stage_is)
      where
        by : (some : Bool) → stage new ≡ cond some BetweenPages BeforePages → is_on_page (stage new) ≡ false
        by true e = rw e
        by false e = rw e

    on_bop : Outside (stage past) → kind_of_command c ≡ Bop → (t : Bool) → chosen (pages past + 1) ≡ t → Same (c ∷ past) next
    on_bop out k true t = stays_off (mended new c) (rw (k, t)) (off_outside i past c out.closed) (off_outside j new (mended new c) (new_outside out))
    on_bop out k false t = goes_by (rw (k, t)) (off_outside i past c out.closed)

    -- on a page that is not chosen
    other_page : chosen (pages past) ≡ false → eqb (pages past) i ≡ false
    other_page t = ne_eqb (pages past) i (λ e. true≢false (sym this ∙ sym (ap chosen e) ∙ t))

    abbrev here : Located
    here = record { at = place past; command = c }

    on_inner : stage past ≡ OnPage → Inner (kind_of_command c) → (t : Bool) → chosen (pages past) ≡ t → (define : Bool) → is_a Define c ≡ define → Same (c ∷ past) next
    on_inner at inner false t define d = goes_by (rw (inner.no_bop, at, t)) (rw (other_page t, and-false (is_on_page (stage past))))
    on_inner at inner true t true d =
        let k = is_kind (kind_of_command c) Define d in
        let e : next ≡ new = rw (k, at, t) in
        subst (Same (c ∷ past)) (sym e) (by (is_on i past c))
      where
        by : (on : Bool) → page_of j new ≡ moved_commands moved (cond on (page_of i past ++ (here ∷ [])) (page_of i past))
        by true = kept ∙ sym (moved_define moved (page_of i past) here d)
        by false = kept
    on_inner at inner true t false d =
        let e : next ≡ c ∷ new = rw (inner.no_bop, at, t, d, inner.no_post, inner.no_end) in
        subst (Same (c ∷ past)) (sym e)
        (by (is_on i past c) (is_on j new c) (ap₂ ◌&&◌ on_both (ap (λ (x : Bool). x && not (is_a Eop c)) numbers)))
      where
        on_both : is_on_page (stage new) ≡ is_on_page (stage past)
        on_both = let there : stage new ≡ OnPage = rw (at, t) at a.stage_is in rw (there, at)

        numbers : eqb (pages new) j ≡ eqb (pages past) i
        numbers = ap (λ (n : ℕ). eqb n j) a.pages_is ∙ number_tells chosen (pages past) i t this

        by : (on also : Bool) → also ≡ on
            → cond also (page_of j new ++ (record { at = place new; command = c } ∷ [])) (page_of j new)
            ≡ moved_commands moved (cond on (page_of i past ++ (here ∷ [])) (page_of i past))
        by true true e =
            ap₂ (λ (x : List Located) (at : ℕ). x ++ (record { at = at; command = c } ∷ [])) kept (sym (newest_place first chosen past c))
            ∙ sym (moved_plain moved (page_of i past) here d)
        by true false e = absurd (false≢true e)
        by false true e = absurd (true≢false e)
        by false false e = kept

    on_eop : stage past ≡ OnPage → kind_of_command c ≡ Eop → (t : Bool) → chosen (pages past) ≡ t → Same (c ∷ past) next
    on_eop at k = by
      where
        off : (x y : Bool) → (x && (y && not (is_a Eop c))) ≡ false
        off x y = rw (k, and-false y, and-false x)

        by : (t : Bool) → chosen (pages past) ≡ t → Same (c ∷ past) next
        by false t = goes_by (rw (k, at, t)) (off (is_on_page (stage past)) (eqb (pages past) i))
        by true t = stays_off c (rw (k, at, t)) (off (is_on_page (stage past)) (eqb (pages past) i)) (off (is_on_page (stage new)) (eqb (pages new) j))

    late_new : is_after_post (stage past) ≡ true → stage new ≡ stage past
    late_new t = rw t at a.stage_is

    one_more : Turn (stage past) (kind_of_command c) → Same (c ∷ past) next
    one_more (starts at k) = goes_by (rw (k, at)) (rw at)
    one_more (idles out k) = goes_by (rw (k, out.closed, out.early)) (off_outside i past c out.closed)
    one_more (defines_early out k) = goes_by (rw (k, out.closed, out.early)) (off_outside i past c out.closed)
    one_more (begins out k) = on_bop out k (chosen (pages past + 1)) refl
    one_more (within at inner) = on_inner at inner (chosen (pages past)) refl (is_a Define c) refl
    one_more (finishes at k) = on_eop at k (chosen (pages past)) refl
    one_more (posts at k) =
        stays_off (mended new c) (rw (k, at)) (rw at)
        (off_outside j new (mended new c) (new_outside (record { begun = rw at; closed = rw at; early = rw at })))
    one_more (idles_late at k) = goes_by (rw (k, at)) (rw at)
    one_more (defines_again at k) = stays_off c (rw (k, at)) (rw at) (off_outside j new c (rw (late_new (rw at), at)))
    one_more (ends at k) = stays_off (mended new c) (rw (k, at)) (rw at) (off_outside j new (mended new c) (rw (late_new (rw at), at)))

  -- a chosen page's commands, upon an opening
  page_moved : First first → {past : List Command} → Sound past → Needs first chosen past → Same past (cut_after first chosen past)
  page_moved f start needs = rw (page_empty j first (omega (arith, f.no_pages, number_positive chosen i none-zero this)))
  page_moved f (more sound w allowed not_last) needs =
      one_more allowed (along first chosen none-zero f sound (needs_down allowed needs)) (page_moved f sound (needs_down allowed needs)) (turn_of allowed)

module _ (chosen : ℕ → Bool) (none-zero : chosen 0 ≡ false) (past : List Command) (c : Command) (closed : Closed past c) (few : pages past < 65536)
    (some : 0 < new_number chosen (pages past)) (fits : place (c ∷ past) + 4 ≤ longest_file) where
  kind_there : kind_of_command c ≡ PostPost
  kind_there = is_kind (kind_of_command c) PostPost closed.last

  -- a chosen page's commands in the whole list
  pub page_cut : (i : ℕ) → chosen i ≡ true → page_of (new_number chosen i) (cut_past chosen (c ∷ past)) ≡ moved_commands (new_place chosen (c ∷ past)) (page_of i (c ∷ past))
  page_cut i t =
      in_new ∙ page_moved (opening past) chosen none-zero i t (as_first chosen none-zero past c closed few some fits) closed.sound (as_needed chosen none-zero past c closed few some fits)
      ∙ moved_same i (new_place_after (opening past) chosen past) (new_place chosen (c ∷ past)) past kept ∙ in_old
    where
      in_new : page_of (new_number chosen i) (cut_past chosen (c ∷ past)) ≡ page_of (new_number chosen i) (cut_after (opening past) chosen past)
      in_new = rw (cut_is chosen none-zero past c closed few some fits, new_end_lem chosen none-zero past c closed few some fits)

      in_old : moved_commands (new_place chosen (c ∷ past)) (page_of i past) ≡ moved_commands (new_place chosen (c ∷ past)) (page_of i (c ∷ past))
      in_old = rw (old_end chosen none-zero past c closed few some fits)

      opening_same : opening past ≡ opening (c ∷ past)
      opening_same = rw kind_there

      kept : (at : ℕ) → at < place past → new_place_after (opening past) chosen past at ≡ new_place chosen (c ∷ past) at
      kept at h = sym (place_kept (opening past) chosen past c at h) ∙ ap (λ (first : List Command). new_place_after first chosen (c ∷ past) at) opening_same
