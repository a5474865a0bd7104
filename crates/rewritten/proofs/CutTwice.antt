-- Of a list of chosen pages the list of all its pages is that list itself. Assumes nothing.
use Prim.Native.Nat.{ℕ, ◌+◌, ◌≤◌, ◌<◌}
use mathlib.Core.Path.{◌≡◌, refl, sym, ap, ap₂, ◌∙◌}
use mathlib.Core.Bool.{Bool, true, false, cond, not, ◌||◌, false≢true, and-eq-true_iff}
use mathlib.Core.List.{List, ◌∷◌}
use native.Mathlib.Omega.{arith}
use lib.Dec.{ltb}
use Rattle.commands.specs.declared.Kind.TheVariants.{Bop, Define, Pre, PostPost}
use Rattle.commands.specs.Commands.{Command, kind_of_command, Whole, place}
use Rattle.commands.specs.Reading.{longest_file}
use Rattle.list.specs.declared.Stage.{Stage}
use Rattle.list.specs.declared.Stage.TheVariants.{AtStart, BeforePages, OnPage, BetweenPages, AfterPost}
use Rattle.list.specs.Past.{is_a, stage, is_on_page, is_after_post, pages, defines}
use Rattle.list.specs.Rules.{is_at_start, Allowed}
use Rattle.list.proofs.Arms.{is_kind}
use Rattle.list.proofs.FontTables.{defines_kind}
use Rattle.cutting.specs.CutList.{opening, stays, mended, cut_after, cut_past}
use Rattle.cutting.proofs.Turning.{Turn, starts, idles, defines_early, begins, within, finishes, posts, idles_late, defines_again, ends, turn_of}
use Rattle.rewritten.specs.OldWords.{new_number}
use Rattle.rewritten.proofs.Unwinding.{Sound, start, more, Closed}
use Rattle.rewritten.proofs.Opening.{opens}
use Rattle.rewritten.proofs.Mending.{mended_again}
use Rattle.rewritten.proofs.Along.{Along, First, Needs, needs_down, along, number_positive}
use Rattle.rewritten.proofs.CutKeeps.{as_first, as_needed, to_end, new_end_lem, cut_is}

-- ---- the opening opens itself, and nothing of it stays

-- the stages of an opening
early : (t : Bool) (at : Stage) → at ≡ cond t AtStart BeforePages → (is_on_page at ≡ false) × (is_after_post at ≡ false)
early true at e = (rw e, rw e)
early false at e = (rw e, rw e)

opens_itself : (whole : ℕ → Bool) (first : List Command) {past : List Command} → Sound past
    → (opening (opening past) ≡ opening past) × (cut_after first whole (opening past) ≡ first)
opens_itself whole first start = (refl, refl)
opens_itself whole first (more {past = past} {c = c} sound w allowed not_last) =
    by (is_a Pre c) refl (defines false (stage past) (kind_of_command c)) refl (opens_itself whole first sound)
  where
    out : (is_on_page (stage (opening past)) ≡ false) × (is_after_post (stage (opening past)) ≡ false)
    out = early (is_at_start (stage past)) (stage (opening past)) (opens sound).stage_is

    by : (pre : Bool) → is_a Pre c ≡ pre → (definition : Bool) → defines false (stage past) (kind_of_command c) ≡ definition
        → (opening (opening past) ≡ opening past) × (cut_after first whole (opening past) ≡ first)
        → (opening (cond (pre || definition) (c ∷ opening past) (opening past)) ≡ cond (pre || definition) (c ∷ opening past) (opening past))
        × (cut_after first whole (cond (pre || definition) (c ∷ opening past) (opening past)) ≡ first)
    by true p definition d (same, none-stay) =
        let k : kind_of_command c ≡ Pre = is_kind (kind_of_command c) Pre p in
        (rw k (ap (λ (l : List Command). c ∷ l) same), rw (k, out.0, out.1) none-stay)
    by false p true d (same, none-stay) =
        let k : kind_of_command c ≡ Define = defines_kind false (stage past) c.opcode d in
        (rw (k, out.1) (ap (λ (l : List Command). c ∷ l) same), rw (k, out.0, out.1) none-stay)
    by false p false d before = before

-- ---- what stays once stays again

-- a command of the new list is none of its opening, and stays where all pages do
record Remains (whole : ℕ → Bool) (n : List Command) (c : Command) : Type 0 where
  no_pre : is_a Pre c ≡ false
  no_definition : defines false (stage n) (kind_of_command c) ≡ false
  again : stays whole n c ≡ true

-- before post no page is open
between : (some : Bool) (at : Stage) → at ≡ cond some BetweenPages BeforePages → is_on_page at ≡ false
between true at e = rw e
between false at e = rw e

module _ (whole : ℕ → Bool) (total : ℕ) (all : (page : ℕ) → 1 ≤ page → page ≤ total → whole page ≡ true)
    (first : List Command) (chosen : ℕ → Bool) (none-zero : chosen 0 ≡ false) where
  module _ (past n : List Command) (c : Command) (a : Along first chosen past n) (few : cond (is_a Bop c) (pages n + 1) (pages n) ≤ total)
      (stayed : stays chosen past c ≡ true) where
    -- on a page
    module _ (at : stage past ≡ OnPage) (no_bop : is_a Bop c ≡ false) where
      is_chosen : (chosen (pages past) ≡ true) × (not (is_a Define c) ≡ true)
      is_chosen = (and-eq-true_iff (chosen (pages past)) (not (is_a Define c))).0 (rw (no_bop, at) at stayed)

      on_page : stage n ≡ OnPage
      on_page = rw (at, is_chosen.0) at a.stage_is

      page_stays : whole (pages n) ≡ true
      page_stays = all (pages n) (omega (arith, a.pages_is, number_positive chosen (pages past) none-zero is_chosen.0)) (rw no_bop at few)

      no_define : is_a Define c ≡ false
      no_define = by (is_a Define c) is_chosen.1
        where
          by : (t : Bool) → not t ≡ true → t ≡ false
          by true e = sym e
          by false e = refl

      page_remains : is_a Pre c ≡ false → Remains whole n c
      page_remains no_pre = record { no_pre = no_pre; no_definition = rw no_define; again = rw (no_bop, on_page, page_stays, no_define) }

    remains : Turn (stage past) (kind_of_command c) → Remains whole n c
    remains (starts at k) = absurd (false≢true (rw (k, at) at stayed))
    remains (idles out k) = absurd (false≢true (rw (k, out.closed, out.early) at stayed))
    remains (defines_early out k) = absurd (false≢true (rw (k, out.closed, out.early) at stayed))
    remains (begins out k) = record { no_pre = rw k; no_definition = rw k; again = rw k (all (pages n + 1) (omega arith) (rw k at few)) }
    remains (within at inner) = page_remains at inner.no_bop inner.no_pre
    remains (finishes at k) = page_remains at (rw k) (rw k)
    remains (posts at k) = record { no_pre = rw k; no_definition = rw k; again = rw (k, between (ltb 0 (pages n)) (stage n) (rw at at a.stage_is)) }
    remains (idles_late at k) = absurd (false≢true (rw (k, at) at stayed))
    remains (defines_again at k) =
        let there : stage n ≡ AfterPost = rw at at a.stage_is in record { no_pre = rw k; no_definition = rw (k, there); again = rw (k, there) }
    remains (ends at k) =
        let there : stage n ≡ AfterPost = rw at at a.stage_is in record { no_pre = rw k; no_definition = rw k; again = rw (k, there) }

  -- a list has the opening, and all of it stays
  abbrev Same : List Command → Type 0
  Same n = (opening n ≡ first) × (cut_after first whole n ≡ n)

  same_more : (n : List Command) (c : Command) → Whole c → Remains whole n c → Same n → Same (mended n c ∷ n)
  same_more n c w r (opened, stayed) = (
    rw (r.no_pre, r.no_definition) opened,
    ap₂ (λ (t : Bool) (before : List Command). cond t (mended before (mended n c) ∷ before) before) r.again stayed ∙ ap (λ (d : Command). d ∷ n) (mended_again n c w),
  )

  -- pages before one more command
  fewer : (n : List Command) (t : Bool) → cond t (pages n + 1) (pages n) ≤ total → pages n ≤ total
  fewer n true h = omega arith
  fewer n false h = h

  one_more : (past n : List Command) (c : Command) → Whole c → Allowed past c → Along first chosen past n → (t : Bool) → stays chosen past c ≡ t
      → pages (cond t (mended n c ∷ n) n) ≤ total → (pages n ≤ total → Same n) → Same (cond t (mended n c ∷ n) n)
  one_more past n c w allowed a true t few before = same_more n c w (remains past n c a few t (turn_of allowed)) (before (fewer n (is_a Bop c) few))
  one_more past n c w allowed a false t few before = before few

  all_same : First first → Same first → {past : List Command} → Sound past → Needs first chosen past → pages (cut_after first chosen past) ≤ total
      → Same (cut_after first chosen past)
  all_same f same start needs few = same
  all_same f same (more {past = past} {c = c} sound w allowed not_last) needs few =
      one_more past (cut_after first chosen past) c w allowed (along first chosen none-zero f sound (needs_down allowed needs)) (stays chosen past c) refl few
      (all_same f same sound (needs_down allowed needs))

-- ---- so it is of a whole list

module _ (chosen : ℕ → Bool) (none-zero : chosen 0 ≡ false) (past : List Command) (c : Command) (closed : Closed past c) (few : pages past < 65536)
    (some : 0 < new_number chosen (pages past)) (fits : place (c ∷ past) + 4 ≤ longest_file) (whole : ℕ → Bool)
    (all : (page : ℕ) → 1 ≤ page → page ≤ new_number chosen (pages past) → whole page ≡ true) where
  abbrev total : ℕ
  total = new_number chosen (pages past)

  abbrev first : List Command
  first = opening past

  abbrev n : List Command
  n = cut_after first chosen past

  before_end : Same whole total all first chosen none-zero n
  before_end =
      all_same whole total all first chosen none-zero (as_first chosen none-zero past c closed few some fits) (opens_itself whole first closed.sound) closed.sound
      (as_needed chosen none-zero past c closed few some fits) (omega (arith, (to_end chosen none-zero past c closed few some fits).pages_is))

  with_end : Same whole total all first chosen none-zero (mended n c ∷ n)
  with_end =
      let k : kind_of_command c ≡ PostPost = is_kind (kind_of_command c) PostPost closed.last in
      same_more whole total all first chosen none-zero n c closed.is_whole
      (record { no_pre = rw k; no_definition = rw k; again = rw (k, new_end_lem chosen none-zero past c closed few some fits) }) before_end

  -- all pages of the list of chosen pages are that list
  pub cut_twice : cut_past whole (cut_past chosen (c ∷ past)) ≡ cut_past chosen (c ∷ past)
  cut_twice =
      let is = cut_is chosen none-zero past c closed few some fits in
      ap (cut_past whole) is ∙ ap (λ (l : List Command). cut_after l whole (mended n c ∷ n)) with_end.0 ∙ with_end.1 ∙ sym is
