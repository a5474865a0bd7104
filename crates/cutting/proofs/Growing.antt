-- The new list grows with the old one and goes no deeper from post on; its opening has no page and no depth. Assumes nothing.
use Prim.Native.Nat.{ℕ, ◌≤◌}
use mathlib.Core.Path.{◌≡◌, refl, sym, ◌∙◌}
use mathlib.Core.Bool.{Bool, true, false, cond, not, ◌||◌, true≢false}
use mathlib.Core.List.{List, [], ◌∷◌}
use native.Mathlib.Omega.{arith}
use lib.IntN.{negsuc}
use Rattle.commands.specs.declared.Kind.{Kind}
use Rattle.commands.specs.declared.Kind.TheVariants.{Bop, Define, Pre, Push, Pop, Post}
use Rattle.commands.specs.Kinds.{is}
use Rattle.commands.specs.Commands.{Command, kind_of_command, place}
use Rattle.list.specs.Past.{is_a, stage, is_after_post, depth, depth_after, greatest, pages, last_bop, post_place, defines}
use Rattle.list.specs.Lawful.{Follows, ends, goes}
use Rattle.list.specs.Rules.{Allowed}
use Rattle.list.proofs.Arms.{is_kind}
use Rattle.volume.specs.OfList.{up_to_last}
use Rattle.volume.proofs.Bounds.{depth_reached}
use Rattle.cutting.specs.CutList.{opening, stays, mended, cut_after}
use Rattle.cutting.proofs.Turning.{Turn, starts, idles, defines_early, begins, within, finishes, posts, idles_late, defines_again, turn_of}
use Rattle.cutting.proofs.Turning as turning

-- ---- growing

opening_more : (past : List Command) (c : Command) → place (opening past) ≤ place (opening (c ∷ past))
opening_more past c = by (is_a Pre c || defines false (stage past) (kind_of_command c))
  where
    by : (t : Bool) → place (opening past) ≤ place (cond t (c ∷ opening past) (opening past))
    by true = omega arith
    by false = omega arith

pub opening_grows : {past cs : List Command} → Follows past cs → place (opening past) ≤ place (opening (up_to_last past cs))
opening_grows (ends {past = past} {c = c} n w allowed last enough) = rw last (opening_more past c)
opening_grows (goes {past = past} {c = c} w allowed not_last follows) = rw not_last (omega (arith, opening_more past c, opening_grows follows))

module _ (first : List Command) (chosen : ℕ → Bool) where
  cut_more : (past : List Command) (c : Command) → place (cut_after first chosen past) ≤ place (cut_after first chosen (c ∷ past))
  cut_more past c = by (stays chosen past c)
    where
      by : (t : Bool) → place (cut_after first chosen past) ≤ place (cond t (mended (cut_after first chosen past) c ∷ cut_after first chosen past) (cut_after first chosen past))
      by true = omega arith
      by false = omega arith

  pub cut_grows : {past cs : List Command} → Follows past cs → place (cut_after first chosen past) ≤ place (cut_after first chosen (up_to_last past cs))
  cut_grows (ends {past = past} {c = c} n w allowed last enough) = rw last (cut_more past c)
  cut_grows (goes {past = past} {c = c} w allowed not_last follows) = rw not_last (omega (arith, cut_more past c, cut_grows follows))

  -- ---- from post on no deeper

  -- a command that is no push
  no_deeper : (past : List Command) (c : Command) → is (kind_of_command c) Push ≡ false → is (kind_of_command c) Pop ≡ false
      → greatest (cut_after first chosen (c ∷ past)) ≡ greatest (cut_after first chosen past)
  no_deeper past c push pop = by (stays chosen past c)
    where
      n : List Command
      n = cut_after first chosen past

      same : greatest (mended n c ∷ n) ≡ greatest n
      same = rw (push, pop) (omega (arith, depth_reached n))

      by : (t : Bool) → greatest (cond t (mended n c ∷ n) n) ≡ greatest n
      by true = same
      by false = refl

  -- a command behind post
  late_one : (past : List Command) (c : Command) → Allowed past c → is_after_post (stage past) ≡ true
      → (greatest (cut_after first chosen (c ∷ past)) ≡ greatest (cut_after first chosen past)) × (is_after_post (stage (c ∷ past)) ≡ true)
  late_one past c allowed t = by (turn_of allowed)
    where
      early : is_after_post (stage past) ≡ false → (greatest (cut_after first chosen (c ∷ past)) ≡ greatest (cut_after first chosen past)) × (is_after_post (stage (c ∷ past)) ≡ true)
      early f = absurd (true≢false (sym t ∙ f))

      by : Turn (stage past) (kind_of_command c)
          → (greatest (cut_after first chosen (c ∷ past)) ≡ greatest (cut_after first chosen past)) × (is_after_post (stage (c ∷ past)) ≡ true)
      by (starts at k) = early (rw at refl)
      by (idles out k) = early out.early
      by (defines_early out k) = early out.early
      by (begins out k) = early out.early
      by (within at inner) = early (rw at refl)
      by (finishes at k) = early (rw at refl)
      by (posts at k) = early (rw at refl)
      by (idles_late at k) = (no_deeper past c (rw k refl) (rw k refl), rw (k, at) refl)
      by (defines_again at k) = (no_deeper past c (rw k refl) (rw k refl), rw (k, at) refl)
      by (turning.ends at k) = (no_deeper past c (rw k refl) (rw k refl), rw k refl)

  -- from behind post on
  late_greatest : {past cs : List Command} → Follows past cs → is_after_post (stage past) ≡ true
      → greatest (cut_after first chosen (up_to_last past cs)) ≡ greatest (cut_after first chosen past)
  late_greatest (ends {past = past} {c = c} n w allowed last enough) t = rw last (late_one past c allowed t).0
  late_greatest (goes {past = past} {c = c} w allowed not_last follows) t =
      let (same, still) = late_one past c allowed t in
      rw not_last (late_greatest follows still ∙ same)

  -- so the depth that post states is that of the commands before it
  pub post_greatest : {past cs : List Command} (c : Command) → kind_of_command c ≡ Post → Follows (c ∷ past) cs
      → greatest (cut_after first chosen (up_to_last (c ∷ past) cs)) ≡ greatest (cut_after first chosen past)
  post_greatest {past} {cs} c k follows = late_greatest follows (rw k refl) ∙ no_deeper past c (rw k refl) (rw k refl)

-- ---- the opening

-- it has no push, no page, no bop and no post
pub record Blank (first : List Command) : Type 0 where
  pub flat : depth first ≡ 0
  pub shallow : greatest first ≡ 0
  pub no_page : pages first ≡ 0
  pub no_bop : last_bop first ≡ negsuc 0
  pub no_post : post_place first ≡ 0

-- one more command that is none of these
bare_more : {first : List Command} (c : Command) (k : Kind) → kind_of_command c ≡ k → (depth_after k 0 ≡ 0) × (is k Bop ≡ false) × (is k Post ≡ false) → Blank first → Blank (c ∷ first)
bare_more c k same (flat, bop, post) b =
    record {
      flat = rw (same, b.flat) flat;
      shallow = rw (b.shallow, same, b.flat, flat) refl;
      no_page = rw (same, bop) b.no_page;
      no_bop = rw (same, bop) b.no_bop;
      no_post = rw (same, post) b.no_post;
    }

pub opening_bare : (past : List Command) → Blank (opening past)
opening_bare [] = record { flat = refl; shallow = refl; no_page = refl; no_bop = refl; no_post = refl }
opening_bare (c ∷ past) = by (is_a Pre c) refl (is_a Define c) refl (opening_bare past)
  where
    by : (pre : Bool) → is_a Pre c ≡ pre → (define : Bool) → is_a Define c ≡ define → Blank (opening past) → Blank (opening (c ∷ past))
    by true p define d b = rw p (bare_more c Pre (is_kind (kind_of_command c) Pre p) (refl, refl, refl) b)
    by false p true d b = rw (p, d) (late (not (is_after_post (stage past))))
      where
        late : (t : Bool) → Blank (cond t (c ∷ opening past) (opening past))
        late true = bare_more c Define (is_kind (kind_of_command c) Define d) (refl, refl, refl) b
        late false = b
    by false p false d b = rw (p, d) b
