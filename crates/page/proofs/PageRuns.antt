-- A page's commands stand in an accepted file, one after the other from the end of its bop to its eop, at the depths that the rules ask. Assumes nothing.
use mathlib.Core.Path.{◌≡◌, refl, sym, ap, ◌∙◌}
use mathlib.Core.Bool.{Bool, true, false, cond, not, ◌&&◌, ◌||◌, and-false, and_assoc, true≢false, false≢true}
use mathlib.Core.List.{List, [], ◌∷◌, ◌++◌, append-nil, append_assoc}
use Prim.Native.Nat.{ℕ, ◌+◌, ◌-◌, ◌≤◌, ◌<◌}
use native.Mathlib.Omega.{arith}
use lib.Dec.{eqb}
use lib.ListN.{length, drop}
use borrow.Author.Tests.{ltb-false, eqb-true, eqb-false, ne_eqb}
use Rattle.refusals.specs.Answer.{given}
use Rattle.commands.specs.declared.Kind.{Kind}
use Rattle.commands.specs.declared.Kind.TheVariants.{Bop, Eop, Push, Pop}
use Rattle.commands.specs.Kinds.{is}
use Rattle.commands.specs.Commands.{Command, kind_of_command, place}
use Rattle.commands.proofs.Fronts.{front_sound}
use Rattle.commands.proofs.ParameterLengths.{whole_plain}
use Rattle.list.specs.declared.Stage.{Stage}
use Rattle.list.specs.declared.Stage.TheVariants.{AtStart, BeforePages, OnPage, BetweenPages, AfterPost, AfterEnd}
use Rattle.volume.specs.declared.Summary.{Summary}
use Rattle.list.specs.Past.{is_a, stage, is_on_page, stage_after, depth, pages}
use Rattle.list.specs.Steps.{bop_of}
use Rattle.list.specs.Rules.{wrong_at_depth, Allowed}
use Rattle.volume.specs.Judged.{judged}
use Rattle.volume.specs.History.{history}
use Rattle.list.proofs.Arms.{on_kinds, is_kind}
use Rattle.volume.proofs.History.{history_counts}
use Rattle.volume.proofs.Going.{after_command}
use Rattle.turns.specs.Placing.{Located}
use Rattle.page.specs.PageList.{is_on, page_of}
use Rattle.page.specs.Steps.{Runs, ends, onward}
use Rattle.list.proofs.AtStages.{compared, does_lawfully}
use Rattle.page.specs.Trace.{Trace, start, more}
use Rattle.page.proofs.Traces.{accepted_trace, accepted_end}

-- ---- what may stand, by stage and kind

-- what a kind does at a stage: whether a page is open after it, whether it is a bop on a page, whether it changes the depth outside pages
abbrev does : Stage → Kind → Bool × Bool × Bool
does at kind = (is_on_page (stage_after kind at), is kind Bop && is_on_page at, not (is_on_page at) && (is kind Push || is kind Pop))

-- as it should be: only bop begins a page and only eop ends one; never; never
abbrev lawful : Stage → Kind → Bool × Bool × Bool
lawful at kind = (cond (is kind Bop) true (cond (is kind Eop) false (is_on_page at)), false, false)

-- all kinds that may stand at a stage do as they should
all_lawful : (at : Stage) (kind : Kind) → compared does lawful at kind ≡ lawful at kind
all_lawful AtStart = on_kinds (compared does lawful AtStart) (lawful AtStart) refl
all_lawful BeforePages = on_kinds (compared does lawful BeforePages) (lawful BeforePages) refl
all_lawful OnPage = on_kinds (compared does lawful OnPage) (lawful OnPage) refl
all_lawful BetweenPages = on_kinds (compared does lawful BetweenPages) (lawful BetweenPages) refl
all_lawful AfterPost = on_kinds (compared does lawful AfterPost) (lawful AfterPost) refl
all_lawful AfterEnd = on_kinds (compared does lawful AfterEnd) (lawful AfterEnd) refl

-- ---- one command

module _ (past : List Command) (c : Command) (allowed : Allowed past c) where
  -- a command that keeps the rules does as it should
  so : does (stage past) (kind_of_command c) ≡ lawful (stage past) (kind_of_command c)
  so = does_lawfully does lawful all_lawful allowed

  -- only bop begins a page, only eop ends one
  page_after : is_on_page (stage (c ∷ past)) ≡ cond (is_a Bop c) true (cond (is_a Eop c) false (is_on_page (stage past)))
  page_after = ap (λ (a : Bool × Bool × Bool). a.0) so

  -- bop stands outside pages
  bop_outside : is_a Bop c ≡ true → is_on_page (stage past) ≡ false
  bop_outside e = rw e at (ap (λ (a : Bool × Bool × Bool). a.1) so)

  -- outside pages the depth does not change
  depth_stays : is_on_page (stage past) ≡ false → depth (c ∷ past) ≡ depth past
  depth_stays e = by (is_a Push c) (is_a Pop c) (rw e at (ap (λ (a : Bool × Bool × Bool). a.2) so))
    where
      by : (push pop : Bool) → (push || pop) ≡ false → cond push (depth past + 1) (cond pop (depth past - 1) (depth past)) ≡ depth past
      by true pop e = absurd (true≢false e)
      by false true e = absurd (true≢false e)
      by false false e = refl

  -- eop stands at depth 0
  eop_depth : is_a Eop c ≡ true → depth past ≡ 0
  eop_depth e =
      let right : wrong_at_depth Eop (depth past) ≡ false = rw (is_kind (kind_of_command c) Eop e) at allowed.depth_right in
      omega (arith, ltb-false 0 (depth past) right)

  -- a command begins a page, ends one, or neither
  data Effect : Type 0 where
    begins : kind_of_command c ≡ Bop → is_on_page (stage past) ≡ false → Effect
    closes : kind_of_command c ≡ Eop → depth past ≡ 0 → Effect
    stays : is_a Bop c ≡ false → is_a Eop c ≡ false → is_on_page (stage (c ∷ past)) ≡ is_on_page (stage past) → Effect

  -- one of these is so
  effect_of : Effect
  effect_of = by (is_a Bop c) refl (is_a Eop c) refl
    where
      by : (bop : Bool) → is_a Bop c ≡ bop → (eop : Bool) → is_a Eop c ≡ eop → Effect
      by true b eop e = begins (is_kind (kind_of_command c) Bop b) (bop_outside b)
      by false b true e = closes (is_kind (kind_of_command c) Eop e) (eop_depth e)
      by false b false e = stays b e (page_after ∙ rw (b, e))

-- outside pages the depth is 0
depth_outside : (file : List ℕ) (past : List Command) → Trace file past → is_on_page (stage past) ≡ false → depth past ≡ 0
depth_outside file past start e = refl
depth_outside file past (more {past = before} c rest t f allowed) e = by (effect_of before c allowed) (depth_outside file before t)
  where
    by : Effect before c allowed → (is_on_page (stage before) ≡ false → depth before ≡ 0) → depth (c ∷ before) ≡ 0
    by (begins k out) earlier = absurd (true≢false (rw k at e))
    by (closes k zero-deep) earlier = rw k zero-deep
    by (stays b p same) earlier = depth_stays before c allowed (sym same ∙ e) ∙ earlier (sym same ∙ e)

-- ---- the commands of a page that has begun

-- a page has begun and not yet ended
abbrev is_open : ℕ → List Command → Bool
is_open page past = is_on_page (stage past) && eqb (pages past) page

-- a page that is still to come is not open
open_later : (page : ℕ) (past : List Command) → pages past < page → is_open page past ≡ false
open_later page past h = rw (ne_eqb (pages past) page (λ e. omega arith)) (and-false (is_on_page (stage past)))

-- a command is one of a page's own where the page is open and it is not its eop
on_is : (page : ℕ) (past : List Command) (c : Command) → is_on page past c ≡ (is_open page past && not (is_a Eop c))
on_is page past c = sym (and_assoc (is_on_page (stage past)) (eqb (pages past) page) (not (is_a Eop c)))

-- no command of a page stands before its bop
page_empty : (page : ℕ) (past : List Command) → pages past < page → page_of page past ≡ []
page_empty page [] h = refl
page_empty page (c ∷ past) h =
    let before : pages past < page = by (is_a Bop c) h in
    rw (on_is page past c, open_later page past before) (page_empty page past before)
  where
    by : (bop : Bool) → cond bop (pages past + 1) (pages past) < page → pages past < page
    by true h = omega arith
    by false h = h

-- where a page is open, its commands so far and what runs on from here run from the end of its bop
runs_open : (file : List ℕ) (page : ℕ) (past : List Command) → Trace file past → is_open page past ≡ true
    → (after : List Located) → Runs file (place past) (depth past) after → Runs file (bop_of page past + 45) 0 (page_of page past ++ after)
runs_open file page past start o = absurd (false≢true o)
runs_open file page past (more {past = before} c rest t f allowed) o = by (effect_of before c allowed) (runs_open file page before t)
  where
    by : Effect before c allowed
        → (is_open page before ≡ true → (after : List Located) → Runs file (place before) (depth before) after → Runs file (bop_of page before + 45) 0 (page_of page before ++ after))
        → (after : List Located) → Runs file (place (c ∷ before)) (depth (c ∷ before)) after
        → Runs file (bop_of page (c ∷ before) + 45) 0 (page_of page (c ∷ before) ++ after)
    by (begins k out) earlier after runs =
        let this : eqb (pages before + 1) page ≡ true = rw k at o in
        let none_yet : page_of page before ≡ [] = page_empty page before (omega (arith, eqb-true (pages before + 1) page this)) in
        let size : length c.params ≡ 44 = whole_plain c (front_sound (drop (place before) file) c rest f).0 k refl in
        let deep : depth (c ∷ before) ≡ 0 = depth_stays before c allowed out ∙ depth_outside file before t out in
        rw (k, this, out, none_yet) (rw (size, deep) at runs)
    by (closes k zero-deep) earlier after runs = absurd (false≢true (rw k at o))
    by (stays b p same) earlier after runs =
        let still : is_open page before ≡ true = rw (same, b) at o in
        rw (on_is page before c, still, p, b, append_assoc) (earlier still (record { at = place before; command = c } ∷ after) (onward c rest f p allowed.depth_right runs))

-- ---- a page that has ended

-- once a page has ended, its commands run from the end of its bop to its eop
runs_closed : (file : List ℕ) (page : ℕ) (past : List Command) → Trace file past → is_open page past ≡ false → 1 ≤ page → page ≤ pages past
    → Runs file (bop_of page past + 45) 0 (page_of page past)
runs_closed file page past start o low high = absurd (omega arith)
runs_closed file page past (more {past = before} c rest t f allowed) o low high =
    by (is_open page before) refl (effect_of before c allowed) (λ q h. runs_closed file page before t q low h)
  where
    by : (opened : Bool) → is_open page before ≡ opened → Effect before c allowed
        → (is_open page before ≡ false → page ≤ pages before → Runs file (bop_of page before + 45) 0 (page_of page before))
        → Runs file (bop_of page (c ∷ before) + 45) 0 (page_of page (c ∷ before))
    by true q (begins k out) earlier = absurd (false≢true (rw out at q))
    by true q (closes k zero-deep) earlier =
        rw (on_is page before c, q, k) (rw append-nil at (runs_open file page before t q [] (ends c rest f (rw k))))
    by true q (stays b p same) earlier = absurd (true≢false (sym q ∙ (rw (same, b) at o)))
    by false q (begins k out) earlier =
        let other : eqb (pages before + 1) page ≡ false = rw k at o in
        let at_most : page ≤ pages before + 1 = rw k at high in
        rw (on_is page before c, q, k, other) (earlier q (omega (arith, eqb-false (pages before + 1) page other)))
    by false q (closes k zero-deep) earlier = rw (on_is page before c, q, k) (earlier q (rw k at high))
    by false q (stays b p same) earlier = rw (on_is page before c, q, b) (earlier q (rw b at high))

-- ---- the pages of an accepted file

-- a page's commands run from the end of its bop to its eop
pub page_runs : (file : List ℕ) (s : Summary) (page : ℕ) → judged file ≡ given s → 1 ≤ page → page ≤ s.pages
    → Runs file (bop_of page (history file) + 45) 0 (page_of page (history file))
page_runs file s page e low high =
    let count : pages (history file) ≡ s.pages = ap (λ (found : Summary). found.pages) (history_counts file s e) in
    runs_closed file page (history file) (accepted_trace file s e) (rw (accepted_end file s e)) low (omega arith)

-- what runs from a place stands within the file
pub runs_inside : {file : List ℕ} {at deep : ℕ} {cs : List Located} → Runs file at deep cs → at ≤ length file
runs_inside {file} (ends {place = at} c rest f e) = omega (arith, (after_command file at c rest f).1)
runs_inside {file} (onward {place = at} c rest f e right runs) = omega (arith, (after_command file at c rest f).1)

-- a page's bop ends within the file
pub bop_inside : (file : List ℕ) (s : Summary) (page : ℕ) → judged file ≡ given s → 1 ≤ page → page ≤ s.pages → bop_of page (history file) + 45 ≤ length file
bop_inside file s page e low high = runs_inside (page_runs file s page e low high)
