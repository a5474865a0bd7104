-- The new list goes along with the old one: what holds of both after each command, and that the new one keeps the rules. Assumes nothing.
use Prim.Native.Nat.{ℕ, zero, suc, ◌+◌, ◌^◌, ◌≤◌, ◌<◌, max}
use mathlib.Core.Path.{◌≡◌, refl, sym, ap, ap₂, ◌∙◌, subst}
use mathlib.Core.Bool.{Bool, true, false, cond, not, ◌&&◌, ◌||◌, true≢false, false≢true, and-false}
use mathlib.Core.List.{List, ◌∷◌}
use native.Mathlib.Numerals.{add-one}
use native.Mathlib.Omega.{arith}
use lib.Dec.{ltb}
use lib.ListN.{length}
use lib.IntN.{ℤ}
use borrow.Author.Tests.{lt-ltb}
use Rattle.numbers.specs.Signs.{same_number}
use Rattle.numbers.proofs.Signed.{same_number_true}
use Rattle.commands.specs.declared.Kind.TheVariants.{Bop, Eop, Select, Define, Pre, Post, PostPost}
use Rattle.commands.specs.declared.fields.UnsignedField.{UnsignedField}
use Rattle.commands.specs.Fields.{pre_num, pre_den, pre_mag, post_num, post_den, post_mag}
use Rattle.commands.specs.Commands.{Command, kind_of_command, Whole, place}
use Rattle.list.specs.declared.Stage.{Stage}
use Rattle.list.specs.declared.Stage.TheVariants.{BeforePages, OnPage, BetweenPages, AfterPost}
use Rattle.list.specs.Past.{is_a, stage, stage_after, is_on_page, is_after_post, depth, depth_after, greatest, pages, unit_in, selected, font_number, defines, none, stands, definition_of, is_defined, font_count}
use Rattle.list.specs.Rules.{is_at_start, may_stand, Allowed}
use Rattle.list.proofs.Arms.{is_kind}
use Rattle.list.proofs.FontTables.{defines_kind}
use Rattle.volume.proofs.Bounds.{depth_reached}
use Rattle.rewritten.proofs.Defining.{right}
use Rattle.rewritten.specs.OldWords.{new_number, deepest_on}
use Rattle.cutting.specs.CutList.{opening, mended, cut_after}
use Rattle.rewritten.specs.Unplaced.{unplaced}
use Rattle.rewritten.proofs.Unwinding.{Sound, start, more}
use Rattle.cutting.proofs.Turning.{Outside, Inner, Turn, starts, idles, defines_early, begins, within, finishes, posts, idles_late, defines_again, ends, turn_of}
use Rattle.rewritten.proofs.Opening.{defined_unplaced, inner_stage}
use Rattle.rewritten.proofs.SoundLaws.{eop_depth, depth_outside, deepest_there}
use Rattle.rewritten.proofs.Mending.{bop_length, bop_points, bop_whole, post_length, post_points, post_same, post_depth_lem, post_pages_lem, post_whole}
use Rattle.rewritten.proofs.Allowing.{bop_allowed, post_allowed, again_allowed, own_allowed, post_old}

-- ---- new numbers

-- one page more
pub number_more : (chosen : ℕ → Bool) (page : ℕ) → new_number chosen (page + 1) ≡ cond (chosen (page + 1)) (new_number chosen page + 1) (new_number chosen page)
number_more chosen page = rw (add-one page)

-- a chosen page has a number
pub number_positive : (chosen : ℕ → Bool) (page : ℕ) → chosen 0 ≡ false → chosen page ≡ true → 0 < new_number chosen page
number_positive chosen zero not_zero t = absurd (true≢false (sym t ∙ not_zero))
number_positive chosen (suc page) not_zero t = rw t (omega arith)

-- no page gets a higher number
pub number_most : (chosen : ℕ → Bool) (page : ℕ) → new_number chosen page ≤ page
number_most chosen zero = omega arith
number_most chosen (suc page) = by (chosen (suc page)) (number_most chosen page)
  where
    by : (t : Bool) → new_number chosen page ≤ page → cond t (new_number chosen page + 1) (new_number chosen page) ≤ suc page
    by true h = omega arith
    by false h = omega arith

-- ---- what goes along

-- the old list is on a chosen page
abbrev pub open_here : (ℕ → Bool) → List Command → Bool
open_here chosen past = is_on_page (stage past) && chosen (pages past)

-- the new stage, by whether the page is chosen, whether one was chosen before, and the old stage
abbrev pub new_stage : Bool → Bool → Stage → Stage
new_stage here some at = cond (is_after_post at) at (cond (is_on_page at && here) OnPage (cond some BetweenPages BeforePages))

-- what holds of the new list n, upon an opening, where the old one is past
pub record Along (first : List Command) (chosen : ℕ → Bool) (past n : List Command) : Type 0 where
  pub sound : Sound n
  pub stage_is : stage n ≡ new_stage (chosen (pages past)) (ltb 0 (pages n)) (stage past)
  pub pages_is : pages n ≡ new_number chosen (pages past)
  pub depth_is : depth n ≡ cond (open_here chosen past) (depth past) 0
  pub greatest_is : greatest n ≡ deepest_on chosen past
  pub selected_is : open_here chosen past ≡ true → selected n ≡ selected past
  pub early_same : (number : ℤ) → definition_of false number n ≡ definition_of false number first
  pub early_count : font_count false n ≡ font_count false first
  pub late_same : (number : ℤ) → unplaced (definition_of true number n) ≡ unplaced (definition_of true number past)
  pub late_count : font_count true n ≡ font_count true past
  pub units : (field : UnsignedField) → unit_in field n ≡ unit_in field first
  pub short : place n + place (opening past) ≤ place first + place past

-- what the opening must be
pub record First (first : List Command) : Type 0 where
  pub sound : Sound first
  pub stage_is : stage first ≡ BeforePages
  pub no_pages : pages first ≡ 0
  pub flat : depth first ≡ 0
  pub flat_always : greatest first ≡ 0
  pub late : (number : ℤ) → definition_of true number first ≡ none
  pub late_count : font_count true first ≡ 0

-- what must hold of the old commands
pub record Needs (first : List Command) (chosen : ℕ → Bool) (past : List Command) : Type 0 where
  pub room : place first + place past < 2 ^ 31
  pub few : pages past < 65536
  pub some : is_after_post (stage past) ≡ true → 0 < new_number chosen (pages past)
  pub covers : (number : ℤ) → is_defined (definition_of false number past) ≡ true → unplaced (definition_of false number first) ≡ unplaced (definition_of false number past)
  pub units : is_at_start (stage past) ≡ false → (field : UnsignedField) → unit_in field first ≡ unit_in field past

-- ---- the needs of one command less

module _ {first : List Command} {chosen : ℕ → Bool} {past : List Command} {c : Command} (allowed : Allowed past c) (needs : Needs first chosen (c ∷ past)) where
  late_down : Turn (stage past) (kind_of_command c) → is_after_post (stage past) ≡ true → 0 < new_number chosen (pages past)
  late_down (starts at k) t = absurd (false≢true (rw at at t))
  late_down (idles out k) t = absurd (false≢true (sym out.early ∙ t))
  late_down (defines_early out k) t = absurd (false≢true (sym out.early ∙ t))
  late_down (begins out k) t = absurd (false≢true (sym out.early ∙ t))
  late_down (within at inner) t = absurd (false≢true (rw at at t))
  late_down (finishes at k) t = absurd (false≢true (rw at at t))
  late_down (posts at k) t = absurd (false≢true (rw at at t))
  late_down (idles_late at k) t = rw k at (needs.some (rw (k, at)))
  late_down (defines_again at k) t = rw k at (needs.some (rw (k, at)))
  late_down (ends at k) t = rw k at (needs.some (rw k))

  units_down : Turn (stage past) (kind_of_command c) → is_at_start (stage past) ≡ false → (field : UnsignedField) → unit_in field first ≡ unit_in field past
  units_down (starts at k) t field = absurd (true≢false (rw at at t))
  units_down (idles out k) t field = rw k at (needs.units (rw k out.begun) field)
  units_down (defines_early out k) t field = rw k at (needs.units (rw k out.begun) field)
  units_down (begins out k) t field = rw k at (needs.units (rw k) field)
  units_down (within at inner) t field = rw inner.no_pre at (needs.units (rw (inner_stage (kind_of_command c) inner (stage past)) t) field)
  units_down (finishes at k) t field = rw k at (needs.units (rw k) field)
  units_down (posts at k) t field = rw k at (needs.units (rw k) field)
  units_down (idles_late at k) t field = rw k at (needs.units (rw k t) field)
  units_down (defines_again at k) t field = rw k at (needs.units (rw k t) field)
  units_down (ends at k) t field = rw k at (needs.units (rw k) field)

  covers_down : (number : ℤ) → is_defined (definition_of false number past) ≡ true → unplaced (definition_of false number first) ≡ unplaced (definition_of false number past)
  covers_down number t = by (defines false (stage past) (kind_of_command c)) refl (same_number (font_number c) number) refl (needs.covers number)
    where
      by : (defining : Bool) → defines false (stage past) (kind_of_command c) ≡ defining → (same : Bool) → same_number (font_number c) number ≡ same
          → (is_defined (cond (defining && same) (stands (place past) c) (definition_of false number past)) ≡ true
          → unplaced (definition_of false number first) ≡ unplaced (cond (defining && same) (stands (place past) c) (definition_of false number past)))
          → unplaced (definition_of false number first) ≡ unplaced (definition_of false number past)
      by true d true s covers = absurd (false≢true (sym (ap is_defined none_yet) ∙ t))
        where
          early : is_after_post (stage past) ≡ false
          early = time (is_after_post (stage past)) (rw (defines_kind false (stage past) c.opcode d) at d)
            where
              time : (x : Bool) → not x ≡ true → x ≡ false
              time true e = sym e
              time false e = refl

          none_yet : definition_of false number past ≡ none
          none_yet = rw (← (same_number_true (font_number c) number s)) ((right allowed (defines_kind false (stage past) c.opcode d)).early early).0
      by true d false s covers = covers t
      by false d same s covers = covers t

  -- all of them
  pub needs_down : Needs first chosen past
  needs_down =
      record {
        room = omega (arith, needs.room);
        few = count (is_a Bop c) needs.few;
        some = late_down (turn_of allowed);
        covers = covers_down;
        units = units_down (turn_of allowed);
      }
    where
      count : (t : Bool) → cond t (pages past + 1) (pages past) < 65536 → pages past < 65536
      count true h = omega arith
      count false h = h

-- ---- a command that goes

-- the opening grows by no more than a command
pub opening_more : (past : List Command) (c : Command) → place (opening (c ∷ past)) ≤ place (opening past) + (1 + length c.params)
opening_more past c = by (is_a Pre c || defines false (stage past) (kind_of_command c))
  where
    by : (t : Bool) → place (cond t (c ∷ opening past) (opening past)) ≤ place (opening past) + (1 + length c.params)
    by true = omega arith
    by false = omega arith

module _ {first : List Command} {chosen : ℕ → Bool} {past n : List Command} {c : Command} (a : Along first chosen past n) where
  goes : new_stage (chosen (pages (c ∷ past))) (ltb 0 (pages n)) (stage (c ∷ past)) ≡ new_stage (chosen (pages past)) (ltb 0 (pages n)) (stage past)
      → new_number chosen (pages (c ∷ past)) ≡ new_number chosen (pages past)
      → cond (open_here chosen (c ∷ past)) (depth (c ∷ past)) 0 ≡ cond (open_here chosen past) (depth past) 0
      → (open_here chosen (c ∷ past) ≡ true → (open_here chosen past ≡ true) × (selected (c ∷ past) ≡ selected past))
      → defines true (stage past) (kind_of_command c) ≡ false
      → Along first chosen (c ∷ past) n
  goes at count deep select late =
      record {
        sound = a.sound;
        stage_is = a.stage_is ∙ sym at;
        pages_is = a.pages_is ∙ sym count;
        depth_is = a.depth_is ∙ sym deep;
        greatest_is = omega (arith, depth_reached n, a.greatest_is, a.depth_is, deep);
        selected_is = λ t. a.selected_is (select t).0 ∙ sym (select t).1;
        early_same = a.early_same;
        early_count = a.early_count;
        late_same = λ number. rw late (a.late_same number);
        late_count = rw late a.late_count;
        units = a.units;
        short = omega (arith, a.short, opening_more past c);
      }

  -- ---- a command that stays, of another kind than a definition

  keeps : (d : Command) → d.opcode ≡ c.opcode → length d.params ≡ length c.params → Sound (d ∷ n)
      → is_a Pre c ≡ false → is_a Define c ≡ false
      → stage_after (kind_of_command c) (stage n) ≡ new_stage (chosen (pages (c ∷ past))) (ltb 0 (cond (is_a Bop c) (pages n + 1) (pages n))) (stage (c ∷ past))
      → cond (is_a Bop c) (pages n + 1) (pages n) ≡ new_number chosen (pages (c ∷ past))
      → depth_after (kind_of_command c) (depth n) ≡ cond (open_here chosen (c ∷ past)) (depth (c ∷ past)) 0
      → (open_here chosen (c ∷ past) ≡ true → cond (is_a Bop c) false (cond (is_a Select c) true (selected n)) ≡ selected (c ∷ past))
      → Along first chosen (c ∷ past) (d ∷ n)
  keeps d same long sound no_pre no_define at count deep select =
      record {
        sound = sound;
        stage_is = rw same at;
        pages_is = rw same count;
        depth_is = rw same deep;
        greatest_is = rw same (ap₂ max a.greatest_is deep);
        selected_is = rw same select;
        early_same = λ number. rw (same, no_define) (a.early_same number);
        early_count = rw (same, no_define) a.early_count;
        late_same = λ number. rw (same, no_define) (a.late_same number);
        late_count = rw (same, no_define) a.late_count;
        units = λ field. rw (same, no_pre) (a.units field);
        short = rw (no_pre, no_define) (omega (arith, a.short, long));
      }

-- ---- one command more

module _ (first : List Command) (chosen : ℕ → Bool) (none-zero : chosen 0 ≡ false) {past : List Command} {c : Command} (old : Sound past) (w : Whole c)
    (allowed : Allowed past c) (not_last : is_a PostPost c ≡ false) (needs : Needs first chosen (c ∷ past)) where
  abbrev new : List Command
  new = cut_after first chosen past

  abbrev next : List Command
  next = cut_after first chosen (c ∷ past)

  -- what must hold before it
  fewer : Needs first chosen past
  fewer = needs_down allowed needs

  module _ (a : Along first chosen past new) where
    -- places fit
    new_short : place new < 2 ^ 31
    new_short = omega (arith, a.short, needs.room)

    -- ---- outside pages

    module _ (out : Outside (stage past)) where
      outside_stage : stage new ≡ cond (ltb 0 (pages new)) BetweenPages BeforePages
      outside_stage = rw (out.early, out.closed) at a.stage_is

      outside_flat : depth new ≡ 0
      outside_flat = rw out.closed at a.depth_is

      may_begin : (some : Bool) (at : Stage) → at ≡ cond some BetweenPages BeforePages → (is_at_start at ≡ false) × (may_stand at Bop ≡ true)
      may_begin true at e = (rw e, rw e)
      may_begin false at e = (rw e, rw e)

      -- a bop
      on_bop : (k : kind_of_command c ≡ Bop) (t : Bool) → chosen (pages past + 1) ≡ t → Along first chosen (c ∷ past) next
      on_bop k true t =
          let (begun, stand) = may_begin (ltb 0 (pages new)) (stage new) outside_stage in
          subst (Along first chosen (c ∷ past)) (sym (rw (k, t)))
          (keeps a (mended new c) refl (bop_length new c w k)
          (more a.sound (bop_whole new c w k) (bop_allowed new (mended new c) k begun stand (bop_points new c w k new_short)) (rw k))
          (rw k) (rw k) (rw (k, t)) (rw k (ap (λ (n : ℕ). n + 1) a.pages_is ∙ sym (number_more chosen (pages past) ∙ rw t)))
          (rw (k, t) (outside_flat ∙ sym (depth_outside old out.closed))) (λ _. rw k))
      on_bop k false t =
          subst (Along first chosen (c ∷ past)) (sym (rw (k, t)))
          (goes a (rw (k, t, out.early, out.closed)) (rw k (number_more chosen (pages past) ∙ rw t)) (rw (k, t, out.closed)) (λ o. absurd (false≢true (rw (k, t) at o))) (rw k))

    -- ---- on a page

    module _ (at : stage past ≡ OnPage) where
      module _ (t : chosen (pages past) ≡ true) where
        there : stage new ≡ OnPage
        there = rw (at, t) at a.stage_is

        as_deep : depth new ≡ depth past
        as_deep = rw (at, t) at a.depth_is

        as_selected : selected new ≡ selected past
        as_selected = a.selected_is (rw (at, t))

        fonts_there : (number : ℤ) → is_defined (definition_of false number past) ≡ true → is_defined (definition_of false number new) ≡ true
        fonts_there number d =
            ap is_defined (a.early_same number) ∙ defined_unplaced (definition_of false number first) (definition_of false number past) (fewer.covers number d) ∙ d

        some_chosen : ltb 0 (pages new) ≡ true
        some_chosen = lt-ltb 0 (pages new) (omega (arith, a.pages_is, number_positive chosen (pages past) none-zero t))

        own_sound : is_a Bop c ≡ false → is_a Define c ≡ false → is_a Post c ≡ false → Sound (c ∷ new)
        own_sound no_bop no_define no_post =
            more a.sound w (own_allowed new c past allowed no_bop no_define no_post not_last at there as_deep as_selected fonts_there) not_last

      -- one of its own commands
      on_inner : Inner (kind_of_command c) → (t : Bool) → chosen (pages past) ≡ t → (define : Bool) → is_a Define c ≡ define → Along first chosen (c ∷ past) next
      on_inner inner false t define d =
          let still = inner_stage (kind_of_command c) inner (stage past) in
          subst (Along first chosen (c ∷ past)) (sym (rw (inner.no_bop, at, t)))
          (goes a (rw (still, inner.no_bop)) (rw inner.no_bop) (rw (still, inner.no_bop, at, t))
          (λ o. absurd (false≢true (rw (still, inner.no_bop, at, t) at o))) (rw at (and-false (is_a Define c))))
      on_inner inner true t true d =
          let k : kind_of_command c ≡ Define = is_kind (kind_of_command c) Define d in
          subst (Along first chosen (c ∷ past)) (sym (rw (k, at, t)))
          (goes a (rw k) (rw k) (rw k) (λ o. (rw k at o, rw k)) (rw (k, at)))
      on_inner inner true t false d =
          let still = inner_stage (kind_of_command c) inner (stage past) in
          let as-old : new_stage (chosen (pages (c ∷ past))) (ltb 0 (cond (is_a Bop c) (pages new + 1) (pages new))) (stage (c ∷ past)) ≡ OnPage =
          rw (still, inner.no_bop, at, t) in
          subst (Along first chosen (c ∷ past)) (sym (rw (inner.no_bop, at, t, d, inner.no_post, inner.no_end)))
          (keeps a c refl refl (own_sound t inner.no_bop d inner.no_post) inner.no_pre d
          (inner_stage (kind_of_command c) inner (stage new) ∙ there t ∙ sym as-old)
          (rw inner.no_bop a.pages_is)
          (rw (still, inner.no_bop, at, t) (ap (depth_after (kind_of_command c)) (as_deep t)))
          (λ _. rw (inner.no_bop, as_selected t)))

      -- its eop
      on_eop : kind_of_command c ≡ Eop → (t : Bool) → chosen (pages past) ≡ t → Along first chosen (c ∷ past) next
      on_eop k false t =
          subst (Along first chosen (c ∷ past)) (sym (rw (k, at, t)))
          (goes a (rw (k, at, t)) (rw k) (rw (k, at, t)) (λ o. absurd (false≢true (rw k at o))) (rw k))
      on_eop k true t =
          subst (Along first chosen (c ∷ past)) (sym (rw (k, at, t)))
          (keeps a c refl refl (own_sound t (rw k) (rw k) (rw k)) (rw k) (rw k) (rw (k, some_chosen t)) (rw k a.pages_is)
          (rw k (as_deep t ∙ eop_depth allowed k)) (λ o. absurd (false≢true (rw k at o))))

    -- ---- post

    on_post : stage past ≡ BetweenPages → kind_of_command c ≡ Post → Along first chosen (c ∷ past) next
    on_post at k =
        let some : 0 < new_number chosen (pages past) = rw k at (needs.some (rw k)) in
        let positive : ltb 0 (pages new) ≡ true = lt-ltb 0 (pages new) (omega (arith, a.pages_is)) in
        let there : stage new ≡ BetweenPages = rw (at, positive) at a.stage_is in
        let few : pages new < 65536 = omega (arith, a.pages_is, number_most chosen (pages past), fewer.few) in
        let flat : greatest new < 65536 = omega (arith, deepest_there a.sound) in
        let (e1, e2, e3, e4) = post_old allowed k in
        let unit : (field : UnsignedField) → unit_in field past ≡ unit_in field new = λ field. sym (a.units field ∙ fewer.units (rw at) field) in
        subst (Along first chosen (c ∷ past)) (sym (rw (k, at)))
        (keeps a (mended new c) refl (post_length new c w k)
        (more a.sound (post_whole new c w k)
        (post_allowed new (mended new c) k there (post_points new c w k new_short)
        (post_same new c w k post_num (omega arith) (omega arith) ∙ e1 ∙ unit pre_num)
        (post_same new c w k post_den (omega arith) (omega arith) ∙ e2 ∙ unit pre_den)
        (post_same new c w k post_mag (omega arith) (omega arith) ∙ e3 ∙ unit pre_mag)
        (post_depth_lem new c w k flat) (post_pages_lem new c w k few))
        not_last)
        (rw k) (rw k) (rw k) (rw k a.pages_is) (rw k (rw at at a.depth_is)) (λ o. absurd (false≢true (rw k at o))))

    -- ---- a definition after post

    on_again : stage past ≡ AfterPost → kind_of_command c ≡ Define → Along first chosen (c ∷ past) next
    on_again at k =
        let there : stage new ≡ AfterPost = rw at at a.stage_is in
        subst (Along first chosen (c ∷ past)) (sym (rw (k, at)))
        (record {
          sound = more a.sound w (again_allowed new c past allowed k at there
              (defined_unplaced (definition_of true (font_number c) new) (definition_of true (font_number c) past) (a.late_same (font_number c)))
              (λ d. ap unplaced (a.early_same (font_number c)) ∙ fewer.covers (font_number c) d)) not_last;
          stage_is = rw k a.stage_is;
          pages_is = rw k a.pages_is;
          depth_is = rw k a.depth_is;
          greatest_is = rw k (ap₂ max a.greatest_is a.depth_is);
          selected_is = λ o. rw k (a.selected_is (rw k at o));
          early_same = λ number. rw (k, there) (a.early_same number);
          early_count = rw (k, there) a.early_count;
          late_same = λ number. rw (k, there, at) (by (same_number (font_number c) number) number);
          late_count = rw (k, there, at) (ap (λ (n : ℕ). n + 1) a.late_count);
          units = λ field. rw k (a.units field);
          short = rw (k, at) (omega (arith, a.short));
        })
      where
        by : (same : Bool) (number : ℤ)
            → unplaced (cond same (stands (place new) c) (definition_of true number new)) ≡ unplaced (cond same (stands (place past) c) (definition_of true number past))
        by true number = refl
        by false number = a.late_same number

    -- ---- all

    one_more : Turn (stage past) (kind_of_command c) → Along first chosen (c ∷ past) next
    one_more (starts at k) =
        subst (Along first chosen (c ∷ past)) (sym (rw (k, at)))
        (goes a (rw (k, at)) (rw k) (rw (k, at)) (λ o. absurd (false≢true (rw k at o))) (rw k))
    one_more (idles out k) =
        subst (Along first chosen (c ∷ past)) (sym (rw (k, out.closed, out.early)))
        (goes a (rw k) (rw k) (rw k) (λ o. (rw k at o, rw k)) (rw k))
    one_more (defines_early out k) =
        subst (Along first chosen (c ∷ past)) (sym (rw (k, out.closed, out.early)))
        (goes a (rw k) (rw k) (rw k) (λ o. (rw k at o, rw k)) (rw (k, out.early)))
    one_more (begins out k) = on_bop out k (chosen (pages past + 1)) refl
    one_more (within at inner) = on_inner at inner (chosen (pages past)) refl (is_a Define c) refl
    one_more (finishes at k) = on_eop at k (chosen (pages past)) refl
    one_more (posts at k) = on_post at k
    one_more (idles_late at k) =
        subst (Along first chosen (c ∷ past)) (sym (rw (k, at)))
        (goes a (rw k) (rw k) (rw k) (λ o. (rw k at o, rw k)) (rw k))
    one_more (defines_again at k) = on_again at k
    one_more (ends at k) = absurd (true≢false (rw k at not_last))

-- the new list goes along with the old one
pub along : (first : List Command) (chosen : ℕ → Bool) → chosen 0 ≡ false → First first → {past : List Command} → Sound past → Needs first chosen past
    → Along first chosen past (cut_after first chosen past)
along first chosen none-zero f start needs =
    record {
      sound = f.sound;
      stage_is = rw f.no_pages f.stage_is;
      pages_is = f.no_pages;
      depth_is = f.flat;
      greatest_is = f.flat_always;
      selected_is = λ o. absurd (false≢true o);
      early_same = λ number. refl;
      early_count = refl;
      late_same = λ number. rw (f.late number);
      late_count = f.late_count;
      units = λ field. refl;
      short = omega arith;
    }
along first chosen none-zero f (more sound w allowed not_last) needs =
    one_more first chosen none-zero sound w allowed not_last needs (along first chosen none-zero f sound (needs_down allowed needs)) (turn_of allowed)
