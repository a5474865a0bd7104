-- What the spot of a walk stands for, command by command. Assumes nothing.
use Prim.Native.Nat.{ℕ, ◌+◌, ◌≤◌}
use mathlib.Core.Path.{◌≡◌, refl, sym, ap, ◌∙◌}
use mathlib.Core.Bool.{true, false, true≢false}
use mathlib.Core.List.{List, [], ◌∷◌}
use native.Mathlib.Omega.{arith}
use Rattle.commands.specs.declared.Kind.TheVariants.{PostPost}
use Rattle.commands.specs.Commands.{Command, kind_of_command, place}
use Rattle.list.specs.Past.{is_a, stage, is_on_page, is_after_post, pages}
use Rattle.list.specs.Rules.{Allowed}
use Rattle.volume.proofs.Bounds.{pages_small}
use Rattle.cutting.specs.declared.Spot.{Spot}
use Rattle.cutting.specs.Chosen.{is_in, rises_from}
use Rattle.cutting.specs.Steps.{next_chosen, at_start, spot_after}
use Rattle.cutting.proofs.Turning.{Turn, starts, idles, defines_early, begins, within, finishes, posts, idles_late, defines_again, ends, turn_of}
use Rattle.cutting.proofs.Rising.{Ahead, none_met, not_below, next_page}

-- a spot stands for the commands so far
pub record Stands (list : List ℕ) (past : List Command) (p : Spot) : Type 0 where
  pub pages_is : p.pages ≡ pages past
  pub on_is : p.on ≡ is_on_page (stage past)
  pub here_is : p.here ≡ is_in list (pages past)
  pub late_is : p.late ≡ is_after_post (stage past)
  pub ahead : Ahead list (pages past) p.met

-- before the first
pub stands_first : (last : ℕ) (list : List ℕ) → rises_from 0 last list ≡ true → Stands list [] at_start
stands_first last list rising =
    record { pages_is = refl; on_is = refl; here_is = sym (not_below 0 last list rising 0 (omega arith)); late_is = refl; ahead = none_met last list rising }

module _ {list : List ℕ} {past : List Command} {c : Command} {p : Spot} (allowed : Allowed past c) (s : Stands list past p) where
  -- whether the page that a bop begins is chosen
  pub next_chosen_lem : next_chosen list p.met p.pages ≡ is_in list (pages past + 1)
  next_chosen_lem = ap (next_chosen list p.met) s.pages_is ∙ (next_page list (pages past) p.met s.ahead).chosen_is

  -- a command that changes neither stage nor page
  stays_put : stage (c ∷ past) ≡ stage past → pages (c ∷ past) ≡ pages past → spot_after list (kind_of_command c) p ≡ p
      → Stands list (c ∷ past) (spot_after list (kind_of_command c) p)
  stays_put at count spot =
      rw spot (record {
        pages_is = rw count s.pages_is;
        on_is = rw at s.on_is;
        here_is = rw count s.here_is;
        late_is = rw at s.late_is;
        ahead = rw count s.ahead;
      })

  -- one more command, but for post_post
  pub stands_on : is_a PostPost c ≡ false → Stands list (c ∷ past) (spot_after list (kind_of_command c) p)
  stands_on not_last = by (turn_of allowed)
    where
      by : Turn (stage past) (kind_of_command c) → Stands list (c ∷ past) (spot_after list (kind_of_command c) p)
      by (starts at k) =
          rw k (record {
            pages_is = rw k s.pages_is;
            on_is = rw k (s.on_is ∙ rw at refl);
            here_is = rw k s.here_is;
            late_is = rw k (s.late_is ∙ rw at refl);
            ahead = rw k s.ahead;
          })
      by (idles out k) = stays_put (rw k refl) (rw k refl) (rw k refl)
      by (defines_early out k) = stays_put (rw k refl) (rw k refl) (rw k refl)
      by (begins out k) =
          let next = next_page list (pages past) p.met s.ahead in
          rw k (record {
            pages_is = rw k (ap (λ (n : ℕ). n + 1) s.pages_is);
            on_is = rw k refl;
            here_is = rw k next_chosen_lem;
            late_is = rw k (s.late_is ∙ out.early);
            ahead = rw (k, s.pages_is) next.goes_on;
          })
      by (within at inner) =
          stays_put (rw (inner.no_pre, inner.no_bop, inner.no_eop, inner.no_post, inner.no_end) refl) (rw inner.no_bop refl)
          (rw (inner.no_bop, inner.no_eop, inner.no_post) refl)
      by (finishes at k) =
          rw k (record {
            pages_is = rw k s.pages_is;
            on_is = rw k refl;
            here_is = rw k s.here_is;
            late_is = rw k (s.late_is ∙ rw at refl);
            ahead = rw k s.ahead;
          })
      by (posts at k) =
          rw k (record {
            pages_is = rw k s.pages_is;
            on_is = rw k (s.on_is ∙ rw at refl);
            here_is = rw k s.here_is;
            late_is = rw k refl;
            ahead = rw k s.ahead;
          })
      by (idles_late at k) = stays_put (rw k refl) (rw k refl) (rw k refl)
      by (defines_again at k) = stays_put (rw k refl) (rw k refl) (rw k refl)
      by (ends at k) = absurd (true≢false (rw k at not_last))

-- the counts of a spot are at most the place after the commands
pub spot_small : {list : List ℕ} {past : List Command} {p : Spot} → Stands list past p → (p.pages ≤ place past) × (p.met ≤ place past)
spot_small {past = past} s = (omega (arith, s.pages_is, pages_small past), omega (arith, s.ahead.few, pages_small past))
