-- What holds of all commands that keep the rules: depths, the place of the last bop, and a page before post. Assumes nothing.
use Prim.Native.Nat.{◌+◌, ◌-◌, ◌≤◌}
use mathlib.Core.Path.{◌≡◌, refl}
use mathlib.Core.Bool.{Bool, true, false, cond, true≢false, false≢true, or-false}
use mathlib.Core.List.{List, [], ◌∷◌}
use native.Mathlib.Omega.{arith}
use lib.Dec.{leb}
use lib.ListN.{length}
use lib.IntN.{pos}
use borrow.Author.Tests.{ltb-false, leb-false}
use Rattle.numbers.specs.Parts.{up, dn}
use Rattle.commands.specs.declared.Kind.TheVariants.{Bop, Eop, Push, Pop}
use Rattle.commands.specs.Commands.{Command, kind_of_command, place}
use Rattle.list.specs.declared.Stage.{Stage}
use Rattle.list.specs.declared.Stage.TheVariants.{AtStart, BeforePages, OnPage, BetweenPages, AfterPost, AfterEnd}
use Rattle.list.specs.Past.{is_a, stage, is_on_page, depth, greatest, pages, last_bop}
use Rattle.list.specs.Rules.{wrong_at_depth, Allowed}
use Rattle.list.proofs.Arms.{is_kind}
use Rattle.rewritten.proofs.Unwinding.{Sound, start, more}
use Rattle.cutting.proofs.Turning.{Turn, starts, idles, defines_early, begins, within, finishes, posts, idles_late, defines_again, ends, turn_of}
use Rattle.rewritten.proofs.Opening.{inner_stage}

-- eop stands at depth 0
pub eop_depth : {past : List Command} {c : Command} → Allowed past c → kind_of_command c ≡ Eop → depth past ≡ 0
eop_depth {past} {c} allowed k =
    let right : wrong_at_depth Eop (depth past) ≡ false = rw k at allowed.depth_right in
    omega (arith, ltb-false 0 (depth past) right)

-- outside pages the depth is 0
pub depth_outside : {past : List Command} → Sound past → is_on_page (stage past) ≡ false → depth past ≡ 0
depth_outside start e = refl
depth_outside (more {past = past} {c = c} sound w allowed not_last) e = by (turn_of allowed) (depth_outside sound)
  where
    by : Turn (stage past) (kind_of_command c) → (is_on_page (stage past) ≡ false → depth past ≡ 0) → depth (c ∷ past) ≡ 0
    by (starts at k) before = rw k (before (rw at))
    by (idles out k) before = rw k (before out.closed)
    by (defines_early out k) before = rw k (before out.closed)
    by (begins out k) before = absurd (true≢false (rw k at e))
    by (within at inner) before = absurd (true≢false (rw (inner_stage (kind_of_command c) inner (stage past), at) at e))
    by (finishes at k) before = rw k (eop_depth allowed k)
    by (posts at k) before = rw k (before (rw at))
    by (idles_late at k) before = rw k (before (rw at))
    by (defines_again at k) before = rw k (before (rw at))
    by (ends at k) before = rw k (before (rw at))

-- the depth is at most 100
pub deep : {past : List Command} → Sound past → depth past ≤ 100
deep start = omega arith
deep (more {past = past} {c = c} sound w allowed not_last) = by (is_a Push c) refl (is_a Pop c) (deep sound)
  where
    by : (push : Bool) → is_a Push c ≡ push → (pop : Bool) → depth past ≤ 100 → cond push (depth past + 1) (cond pop (depth past - 1) (depth past)) ≤ 100
    by true e pop h =
        let right : leb 100 (depth past) ≡ false = rw (is_kind (kind_of_command c) Push e, or-false) at allowed.depth_right in
        omega (arith, leb-false 100 (depth past) right)
    by false e true h = omega arith
    by false e false h = h

-- so is the greatest
pub deepest_there : {past : List Command} → Sound past → greatest past ≤ 100
deepest_there start = omega arith
deepest_there (more sound w allowed not_last) = omega (arith, deepest_there sound, deep (more sound w allowed not_last))

-- the place of the last bop
pub last_bop_fits : (past : List Command) → (up (last_bop past) ≤ place past) × (dn (last_bop past) ≤ 1)
last_bop_fits [] = (omega arith, omega arith)
last_bop_fits (c ∷ past) = by (is_a Bop c) (last_bop_fits past)
  where
    by : (t : Bool) → (up (last_bop past) ≤ place past) × (dn (last_bop past) ≤ 1)
        → (up (cond t (pos (place past)) (last_bop past)) ≤ place past + (1 + length c.params)) × (dn (cond t (pos (place past)) (last_bop past)) ≤ 1)
    by true h = (omega arith, omega arith)
    by false (a, b) = (omega arith, b)

-- a page has begun
abbrev has_pages : Stage → Bool
has_pages AtStart = false
has_pages BeforePages = false
has_pages OnPage = true
has_pages BetweenPages = true
has_pages AfterPost = true
has_pages AfterEnd = true

page_begun : {past : List Command} → Sound past → has_pages (stage past) ≡ true → 1 ≤ pages past
page_begun start t = absurd (false≢true t)
page_begun (more {past = past} {c = c} sound w allowed not_last) t = by (turn_of allowed) (page_begun sound)
  where
    by : Turn (stage past) (kind_of_command c) → (has_pages (stage past) ≡ true → 1 ≤ pages past) → 1 ≤ pages (c ∷ past)
    by (starts at k) before = absurd (false≢true (rw k at t))
    by (idles out k) before = rw k (before (rw k at t))
    by (defines_early out k) before = rw k (before (rw k at t))
    by (begins out k) before = rw k (omega arith)
    by (within at inner) before = rw inner.no_bop (before (rw at))
    by (finishes at k) before = rw k (before (rw at))
    by (posts at k) before = rw k (before (rw at))
    by (idles_late at k) before = rw k (before (rw at))
    by (defines_again at k) before = rw k (before (rw at))
    by (ends at k) before = rw k (before (rw at))

-- post stands after a page
pub page_before_post : {past : List Command} → Sound past → stage past ≡ AfterPost → 1 ≤ pages past
page_before_post sound at = page_begun sound (rw at)
