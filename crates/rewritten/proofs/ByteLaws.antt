-- The parameters of the commands of a file of bytes are bytes; so an accepted file of bytes has at most 65,535 pages. Assumes nothing.
use Prim.Native.Nat.{ℕ, suc, ◌+◌, ◌≤◌, ◌<◌}
use mathlib.Core.Path.{◌≡◌, sym, ◌∙◌, subst}
use mathlib.Core.Bool.{true, true≢false, false≢true}
use mathlib.Core.List.{List, [], ◌∷◌, ◌++◌}
use mathlib.Core.Logic.{⊎_elim}
use native.Mathlib.Omega.{arith}
use lib.ListN.{length, get_or, get_or-append, get_or-eq_default}
use lib.Seq.{get_or-append-add}
use Rattle.numbers.proofs.Bytes.{unsigned_below}
use Rattle.widths.specs.AsBytes.{Bytes}
use Rattle.commands.specs.Commands.{Command, kind_of_command, form, written}
use Rattle.numbers.proofs.Radix.{less_or_not}
use Rattle.list.specs.Past.{stage, is_after_post, pages}
use Rattle.cutting.specs.CutList.{onto}
use Rattle.rewritten.proofs.Unwinding.{Sound, start, more}
use Rattle.cutting.proofs.Turning.{Turn, starts, idles, defines_early, begins, within, finishes, posts, idles_late, defines_again, ends, turn_of}
use Rattle.rewritten.proofs.Opening.{inner_stage}
use Rattle.rewritten.proofs.Allowing.{post_old}

-- a byte at each place; past the end a 0
abbrev Everywhere : List ℕ → Type 0
Everywhere l = (i : ℕ) → get_or l i 0 < 256

everywhere : (l : List ℕ) → Bytes l → Everywhere l
everywhere l b i = ⊎_elim (b i) (λ (g : length l ≤ i). rw (get_or-eq_default l 0 g) (omega arith)) (less_or_not i (length l))

-- so are the parameters of all commands
data AllBytes : List Command → Type 0 where
  nothing : AllBytes []
  also : {c : Command} {past : List Command} → Everywhere c.params → AllBytes past → AllBytes (c ∷ past)

bytes_of : (past cs : List Command) → Everywhere (written (onto past cs)) → AllBytes past × Everywhere (written cs)
bytes_of [] cs b = (nothing, b)
bytes_of (c ∷ past) cs b =
    let (before, here) = bytes_of past (c ∷ cs) b in
    (also (inside here) before, λ i. subst (λ (n : ℕ). n < 256) (get_or-append-add (form c) (written cs) i 0) (here (length (form c) + i)))
  where
    inside : Everywhere (form c ++ written cs) → Everywhere c.params
    inside here i =
        ⊎_elim (λ l. subst (λ (n : ℕ). n < 256) (get_or-append c.params (written cs) 0 i l) (here (suc i)))
        (λ (g : length c.params ≤ i). rw (get_or-eq_default c.params 0 g) (omega arith)) (less_or_not i (length c.params))

few_there : {past : List Command} → Sound past → AllBytes past → is_after_post (stage past) ≡ true → pages past < 65536
few_there start b t = omega arith
few_there (more {past = past} {c = c} sound w allowed not_last) (also here before) t = by (turn_of allowed) (few_there sound before)
  where
    by : Turn (stage past) (kind_of_command c) → (is_after_post (stage past) ≡ true → pages past < 65536) → pages (c ∷ past) < 65536
    by (starts at k) earlier = absurd (false≢true (rw k at t))
    by (idles out k) earlier = absurd (false≢true (sym out.early ∙ (rw k at t)))
    by (defines_early out k) earlier = absurd (false≢true (sym out.early ∙ (rw k at t)))
    by (begins out k) earlier = absurd (false≢true (rw k at t))
    by (within at inner) earlier = absurd (false≢true (rw (inner_stage (kind_of_command c) inner (stage past), at) at t))
    by (finishes at k) earlier = absurd (false≢true (rw k at t))
    by (posts at k) earlier = rw k (omega (arith, (post_old allowed k).3, unsigned_below c.params 26 2 (λ i h. here (26 + i))))
    by (idles_late at k) earlier = rw k (earlier (rw at))
    by (defines_again at k) earlier = rw k (earlier (rw at))
    by (ends at k) earlier = absurd (true≢false (rw k at not_last))

-- so where post has passed there are at most 65,535 pages
pub few_pages : {past : List Command} (cs : List Command) → Sound past → Bytes (written (onto past cs)) → is_after_post (stage past) ≡ true → pages past < 65536
few_pages {past} cs sound b = few_there sound (bytes_of past cs (everywhere (written (onto past cs)) b)).0
