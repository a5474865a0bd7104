-- What the walk that counts holds, command by command. Assumes nothing.
use Prim.Native.Nat.{ℕ, ◌+◌, ◌-◌, ◌≤◌, max}
use mathlib.Core.Path.{◌≡◌, refl, sym, ap, ◌∙◌, subst}
use mathlib.Core.Bool.{Bool, true, false, cond}
use mathlib.Core.List.{List, [], ◌∷◌}
use native.Mathlib.Omega.{arith}
use lib.ListN.{length, drop, length-drop}
use Rattle.commands.specs.declared.Kind.{Kind}
use Rattle.commands.specs.declared.Kind.TheVariants.{PostPost}
use Rattle.commands.specs.Kinds.{is}
use Rattle.commands.specs.Commands.{Command, kind_of_command, Whole, whole, front, place}
use Rattle.commands.proofs.Fronts.{front_length}
use Rattle.list.specs.Past.{is_a, depth, depth_after, greatest}
use Rattle.list.specs.Lawful.{Lawful}
use Rattle.volume.specs.History.{history}
use Rattle.volume.proofs.Bounds.{depth_reached}
use Rattle.cutting.specs.declared.Spot.{Spot}
use Rattle.cutting.specs.declared.Run.{Run}
use Rattle.cutting.specs.declared.Fate.{Fate}
use Rattle.cutting.specs.declared.Counted.{Counted}
use Rattle.cutting.specs.Chosen.{is_in, rises_from}
use Rattle.cutting.specs.CutList.{opening, mended, cut_after}
use Rattle.cutting.specs.Steps.{at_start, spot_after, fate_of, is_idle, run_at, run_after, Runs, runs_none, runs_on, RunTo, run_counted, one_kept, counted_after, CountsAll}
use Rattle.cutting.proofs.Walks.{Walk, Met, starting, met}
use Rattle.cutting.proofs.Standing.{Stands, stands_first, stands_on}
use Rattle.cutting.proofs.Becoming.{Becomes, becomes}
use Rattle.cutting.proofs.MendedForms.{mended_length}
use Rattle.cutting.proofs.Growing.{opening_bare}
use Rattle.cutting.proofs.IdleRuns.{Idle, idle, depth_after_lem, runs_ahead}

module _ (file list : List ℕ) where
  abbrev first : List Command
  first = opening (history file)

  abbrev new : List Command → List Command
  new past = cut_after first (is_in list) past

  -- the counts are those of the commands so far
  pub record Counts (at : ℕ) (past : List Command) (m : Counted) : Type 0 where
    pub opened_is : m.opened ≡ place (opening past)
    pub kept_is : place first + m.kept ≡ place (new past)
    pub depth_is : m.depth ≡ depth (new past)
    pub greatest_is : m.greatest ≡ greatest (new past)
    pub short : m.opened + m.kept ≤ at
    pub shallow : m.depth ≤ at

  -- the walk at a place
  pub record Counting (at : ℕ) (p : Spot) (m : Counted) : Type 0 where
    pub past : List Command
    pub walk : Walk file at past
    pub stands : Stands list past p
    pub counts : Counts at past m

  pub counting_first : Lawful file → (last : ℕ) → rises_from 0 last list ≡ true → Counting 0 at_start (record { opened = 0; kept = 0; depth = 0; greatest = 0 })
  counting_first lawful last rising =
      let bare = opening_bare (history file) in
      record {
        past = [];
        walk = starting file lawful;
        stands = stands_first last list rising;
        counts = record {
          opened_is = refl;
          kept_is = omega arith;
          depth_is = sym bare.flat;
          greatest_is = sym bare.shallow;
          short = omega arith;
          shallow = omega arith;
        };
      }

  module _ {at : ℕ} {past : List Command} {m : Counted} (k : Counts at past m) (c : Command) where
    abbrev size : ℕ
    size = 1 + length c.params

    -- a depth that is a number of the new list is small
    depth_fits : (next : ℕ) → next ≤ m.depth + 1 → next ≤ at + size
    depth_fits next h = omega (arith, k.shallow)

    -- a command that stays, as it is or mended
    kept : (d : Command) → d.opcode ≡ c.opcode → length d.params ≡ length c.params → opening (c ∷ past) ≡ opening past → new (c ∷ past) ≡ d ∷ new past
        → Counts (at + size) (c ∷ past) (one_kept (kind_of_command c) size m)
    kept d same-opcode same_length same_opening is =
        let deep : depth (d ∷ new past) ≡ depth_after (kind_of_command c) m.depth = rw (same-opcode, ← k.depth_is) refl in
        record {
          opened_is = rw same_opening k.opened_is;
          kept_is = rw is (omega (arith, k.kept_is, same_length));
          depth_is = rw is (sym deep);
          greatest_is = rw (is, deep, ← k.greatest_is) refl;
          short = omega (arith, k.short);
          shallow = depth_fits _ (depth_after_lem (kind_of_command c) m.depth);
        }

    -- one more command, by its fate
    counted_on : (fate : Fate) → Whole c → Becomes first list past c fate → Counts (at + size) (c ∷ past) (counted_after fate (kind_of_command c) size m)
    counted_on Fate.Opening good (opens, is) =
        record {
          opened_is = rw opens (omega (arith, k.opened_is));
          kept_is = rw is k.kept_is;
          depth_is = rw is k.depth_is;
          greatest_is = rw is k.greatest_is;
          short = omega (arith, k.short);
          shallow = omega (arith, k.shallow);
        }
    counted_on Fate.Copied good (same, is, bop, post) = kept c refl refl same is
    counted_on Fate.Mended good (same, is, kind) = kept (mended (new past) c) refl (mended_length (new past) c good kind) same is
    counted_on Fate.Dropped good (same, is) =
        record {
          opened_is = rw same k.opened_is;
          kept_is = rw is k.kept_is;
          depth_is = rw is k.depth_is;
          greatest_is = rw is k.greatest_is;
          short = omega (arith, k.short);
          shallow = omega (arith, k.shallow);
        }

  module _ {at : ℕ} {p : Spot} {m : Counted} (k : Counting at p m) (c : Command) (bytes : List ℕ) (f : front (drop at file) ≡ whole c bytes) where
    abbrev there : Met file at k.past c
    there = met k.walk c bytes f

    abbrev fate : Fate
    fate = fate_of (kind_of_command c) (spot_after list (kind_of_command c) p).here p

    counts_there : Counts (at + (1 + length c.params)) (c ∷ k.past) (counted_after fate (kind_of_command c) (1 + length c.params) m)
    counts_there = counted_on k.counts c fate there.is_whole (becomes first list there.allowed k.stands)

    -- the walk goes on
    pub counting_on : is_a PostPost c ≡ false
        → Counting (at + (1 + length c.params)) (spot_after list (kind_of_command c) p) (counted_after fate (kind_of_command c) (1 + length c.params) m)
    counting_on not_last =
        record { past = c ∷ k.past; walk = there.onward not_last; stands = stands_on there.allowed k.stands not_last; counts = counts_there }

    -- and ends
    pub counting_last : is_a PostPost c ≡ true → CountsAll file list (counted_after fate (kind_of_command c) (1 + length c.params) m)
    counting_last last =
        let end = there.at_last last in
        let n = counts_there in
        let opened : (counted_after fate (kind_of_command c) (1 + length c.params) m).opened ≡ place first = n.opened_is ∙ ap (λ (l : List Command). place (opening l)) (sym end) in
        let all = n.kept_is ∙ ap (λ (l : List Command). place (new l)) (sym end) in
        record {
          opened_is = opened;
          all_is = omega (arith, opened, all);
          greatest_is = n.greatest_is ∙ ap (λ (l : List Command). greatest (new l)) (sym end);
          small = omega (arith, n.short, opened, all, front_length (drop at file) c bytes f, length-drop at file);
        }

  -- ---- runs of plain commands, pushes, pops and selections

  module _ {at : ℕ} {p : Spot} {m : Counted} (k : Counting at p m) (c : Command) (bytes : List ℕ) (f : front (drop at file) ≡ whole c bytes)
      (on : p.on ≡ true) (t : is_idle (kind_of_command c) ≡ true) where
    idles : Idle list p (kind_of_command c)
    idles = idle list p (kind_of_command c) t

    abbrev length_there : ℕ
    length_there = 1 + length c.params

    -- one of them stays on a chosen page
    idle_on : Counting (at + length_there) p (cond p.here (one_kept (kind_of_command c) length_there m) m)
    idle_on =
        let next = counting_on k c bytes f idles.not_last in
        subst (Counting (at + length_there) p) (counts_as p.here refl)
        (subst (λ (q : Spot). Counting (at + length_there) q (counted_after (fate_of (kind_of_command c) q.here p) (kind_of_command c) length_there m)) idles.same_spot next)
      where
        counts_as : (here : Bool) → p.here ≡ here
            → counted_after (fate_of (kind_of_command c) p.here p) (kind_of_command c) length_there m ≡ cond here (one_kept (kind_of_command c) length_there m) m
        counts_as true h = rw (idles.same_fate p.here, on, h) refl
        counts_as false h = rw (idles.same_fate p.here, on, h) refl

  -- where a run starts
  abbrev run_start : ℕ → Counted → Run
  run_start at m = run_at at m.depth m.greatest

  -- a run with one more command
  run_joined : (here : Bool) (at : ℕ) (m : Counted) (kind : Kind) (size : ℕ) (r : Run) → at ≤ r.at
      → cond here (one_kept kind size (run_counted here at r m)) (run_counted here at r m) ≡ run_counted here at (run_after kind size r) m
  run_joined true at m kind size r h =
      let e : m.kept + (r.at - at) + size ≡ m.kept + (r.at + size - at) = omega arith in
      ap (λ (n : ℕ). record { opened = m.opened; kept = n; depth = depth_after kind r.depth; greatest = max r.greatest (depth_after kind r.depth) }) e
  run_joined false at m kind size r h = refl

  -- a run without commands
  no_run : (here : Bool) (at : ℕ) (m : Counted) → m ≡ run_counted here at (run_start at m) m
  no_run true at m =
      let e : m.kept ≡ m.kept + (at - at) = omega arith in
      ap (λ (n : ℕ). record { opened = m.opened; kept = n; depth = m.depth; greatest = m.greatest }) e
  no_run false at m = refl

  -- a run on a page
  counting_runs : {at : ℕ} {p : Spot} {m : Counted} {r : Run} → Counting at p m → p.on ≡ true → Runs file (run_start at m) r → Counting r.at p (run_counted p.here at r m)
  counting_runs {at = at} {p = p} {m = m} k on runs_none = subst (Counting at p) (no_run p.here at m) k
  counting_runs {at = at} {p = p} {m = m} k on (runs_on {r = r} c bytes run f t) =
      subst (Counting (r.at + (1 + length c.params)) p) (run_joined p.here at m (kind_of_command c) (1 + length c.params) r (runs_ahead run))
      (idle_on (counting_runs k on run) c bytes f on t)

  -- a run, on a page or elsewhere
  pub counting_run : {at : ℕ} {p : Spot} {m : Counted} → Counting at p m → (r : Run) → RunTo file p.on (run_start at m) r → Counting r.at p (run_counted p.here at r m)
  counting_run {at = at} {p = p} {m = m} k r run = by p.on refl run
    where
      by : (on : Bool) → p.on ≡ on → RunTo file on (run_start at m) r → Counting r.at p (run_counted p.here at r m)
      by true on runs = counting_runs k on runs
      by false on same = rw same (subst (Counting at p) (no_run p.here at m) k)

  -- the depth is one that was reached
  pub counted_deep : {at : ℕ} {p : Spot} {m : Counted} → Counting at p m → m.depth ≤ m.greatest
  counted_deep k = omega (arith, k.counts.depth_is, k.counts.greatest_is, depth_reached (new k.past))

  -- the same walk in other words
  pub counting_same : {at there : ℕ} {p q : Spot} {m n : Counted} → at ≡ there → p ≡ q → m ≡ n → Counting there q n → Counting at p m
  counting_same place spot counts k = rw (place, spot, counts) k

-- what the code's calls come to, one after the other
pub counted_is : (list : List ℕ) (p after : Spot) (m r : Counted) (kind is_kind : Kind) (fate : Fate) (size is-size : ℕ) → kind ≡ is_kind → after ≡ spot_after list kind p
    → fate ≡ fate_of kind after.here p → size ≡ is-size → r ≡ counted_after fate kind size m
    → r ≡ counted_after (fate_of is_kind (spot_after list is_kind p).here p) is_kind is-size m
counted_is list p after m r kind is_kind fate size is-size k spot become long e = e ∙ rw (become, spot, k, long) refl
