-- One turn of the walk that writes: the room that it has, and what it leads to. Assumes nothing.
use Prim.Native.Nat.{ℕ, ◌+◌, ◌-◌, ◌≤◌, ◌<◌, ◌^◌}
use mathlib.Core.Path.{◌≡◌, refl, sym, ap, ap₂, ◌∙◌, subst}
use mathlib.Core.Bool.{Bool, true, false, cond, ◌&&◌, true≢false}
use mathlib.Core.List.{List, [], ◌∷◌, ◌++◌, append_assoc, append-nil}
use native.Mathlib.Omega.{arith}
use lib.ListN.{length, drop, length-drop}
use lib.Seq.{sets}
use Rattle.commands.specs.declared.Kind.{Kind}
use Rattle.commands.specs.declared.Kind.TheVariants.{Bop, Eop, Post, PostPost}
use Rattle.commands.specs.Kinds.{is}
use Rattle.commands.specs.Commands.{Command, kind_of_command, whole, front, place}
use Rattle.commands.proofs.Fronts.{front_length}
use Rattle.list.specs.Past.{is_a, greatest, pages, last_bop, post_place}
use Rattle.volume.specs.History.{history}
use Rattle.volume.proofs.Bounds.{post_small}
use Rattle.areas.proofs.Pasting.{sets_behind}
use Rattle.cutting.specs.declared.Spot.{Spot}
use Rattle.cutting.specs.declared.Run.{Run}
use Rattle.cutting.specs.declared.Fate.{Fate}
use Rattle.cutting.specs.declared.Counted.{Counted}
use Rattle.cutting.specs.declared.Made.{Made}
use Rattle.cutting.specs.Chosen.{is_in}
use Rattle.cutting.specs.CutList.{opening, stays, mended, cut_after, cut_past}
use Rattle.cutting.specs.Steps.{next_chosen, at_start, spot_after, fate_of, is_idle, run_at, Runs, runs_none, runs_on, RunTo, forms_of, between, made_copied, area_copied, made_after, area_turned, RoomToCopy, RoomToTurn, Writable}
use Rattle.cutting.proofs.Walks.{Walk, Met, starting, met, inside}
use Rattle.cutting.proofs.Standing.{Stands, stands_first, stands_on, next_chosen_lem}
use Rattle.cutting.proofs.Becoming.{Becomes, becomes}
use Rattle.cutting.proofs.MendedForms.{mended_size_lem, mended_length}
use Rattle.cutting.proofs.Growing.{opening_grows, cut_grows, post_greatest, opening_bare}
use Rattle.cutting.proofs.IdleRuns.{Idle, idle, runs_ahead}
use Rattle.cutting.proofs.WriteLaws.{forms_length, between_on, between_form, between_none, Written, place_is, area_length, dropped, to_copy, to_opening, to_mend}

-- the walk at a place
pub record Writing (file list entry : List ℕ) (at : ℕ) (p : Spot) (m : Made) (out : List ℕ) : Type 0 where
  pub past : List Command
  pub walk : Walk file at past
  pub stands : Stands list past p
  pub done : Written file list entry (opening (history file)) at past p.met m out

module _ (file list : List ℕ) (counted : Counted) (entry : List ℕ) (w : Writable file list counted (length entry)) where
  abbrev first : List Command
  first = opening (history file)

  abbrev new : List Command → List Command
  new past = cut_after first (is_in list) past

  pub writing_first : Writing file list entry 0 at_start (record { from = 0; opened = 0; size = counted.opened; bop = 4294967295; post = 0 }) entry
  writing_first =
      let bare = opening_bare (history file) in
      record {
        past = [];
        walk = starting file w.lawful;
        stands = stands_first _ list w.rising;
        done = record {
          ahead = omega arith;
          written = [];
          forms_are = sym (ap (λ (l : List ℕ). forms_of first ++ l) (between_none file 0) ∙ append-nil (forms_of first));
          size_is = omega (arith, w.counts.opened_is);
          opened_is = refl;
          bop_is = rw bare.no_bop refl;
          post_is = sym bare.no_post;
          met_is = sym bare.no_page;
          area_is = refl;
        };
      }

  module _ {at : ℕ} {p : Spot} {m : Made} {out : List ℕ} (k : Writing file list entry at p m out) where
    grown : place (new k.past) ≤ place (cut_past (is_in list) (history file))
    grown = subst (λ (l : List Command). place (new k.past) ≤ place (new l)) (sym k.walk.told) (cut_grows first (is_in list) k.walk.follows)

    -- there is room for what is still to be copied
    pub room_to_copy : RoomToCopy file at m (length out)
    room_to_copy =
        record {
          ahead = k.done.ahead;
          inside = omega (arith, inside k.walk);
          fits = omega (arith, place_is file list entry first k.done (omega (arith, inside k.walk)), grown, w.fits, area_length file list entry first k.done);
        }

    module _ (c : Command) (bytes : List ℕ) (f : front (drop at file) ≡ whole c bytes) where
      abbrev next : ℕ
      next = at + (1 + length c.params)

      abbrev there : Met file at k.past c
      there = met k.walk c bytes f

      abbrev fate : Fate
      fate = fate_of (kind_of_command c) (spot_after list (kind_of_command c) p).here p

      in_file : next ≤ length file
      in_file = omega (arith, front_length (drop at file) c bytes f, length-drop at file, inside k.walk)

      -- the new list and its opening are not longer than they will be
      new_fits : place (new (c ∷ k.past)) ≤ place (cut_past (is_in list) (history file))
      new_fits = by (is_a PostPost c) refl
        where
          by : (last : Bool) → is_a PostPost c ≡ last → place (new (c ∷ k.past)) ≤ place (new (history file))
          by true last = subst (λ (l : List Command). place (new (c ∷ k.past)) ≤ place (new l)) (sym (there.at_last last)) (omega arith)
          by false last =
              let on = there.onward last in
              subst (λ (l : List Command). place (new (c ∷ k.past)) ≤ place (new l)) (sym on.told) (cut_grows first (is_in list) on.follows)

      opening_fits : place (opening (c ∷ k.past)) ≤ place first
      opening_fits = by (is_a PostPost c) refl
        where
          by : (last : Bool) → is_a PostPost c ≡ last → place (opening (c ∷ k.past)) ≤ place (opening (history file))
          by true last = rw (there.at_last last) (omega arith)
          by false last =
              let on = there.onward last in
              subst (λ (l : List Command). place (opening (c ∷ k.past)) ≤ place (opening l)) (sym on.told) (opening_grows on.follows)

      -- how many pages of the list are met behind it
      met_on : (spot_after list (kind_of_command c) p).met ≡ pages (new (c ∷ k.past))
      met_on = by (is (kind_of_command c) Bop) refl
        where
          begun : (t : Bool) → stays (is_in list) k.past c ≡ t → is_a Bop c ≡ true → cond t (p.met + 1) p.met ≡ pages (new (c ∷ k.past))
          begun true e bop =
              ap (λ (i : ℕ). i + 1) k.done.met_is
              ∙ ap (λ (b : Bool). cond b (pages (new k.past) + 1) (pages (new k.past))) (sym bop)
              ∙ ap (λ (b : Bool). pages (cond b (mended (new k.past) c ∷ new k.past) (new k.past))) (sym e)
          begun false e bop = k.done.met_is ∙ ap (λ (b : Bool). pages (cond b (mended (new k.past) c ∷ new k.past) (new k.past))) (sym e)

          other : (t : Bool) → is_a Bop c ≡ false → stays (is_in list) k.past c ≡ t → p.met ≡ pages (new (c ∷ k.past))
          other true bop e =
              k.done.met_is
              ∙ ap (λ (b : Bool). cond b (pages (new k.past) + 1) (pages (new k.past))) (sym bop)
              ∙ ap (λ (b : Bool). pages (cond b (mended (new k.past) c ∷ new k.past) (new k.past))) (sym e)
          other false bop e = k.done.met_is ∙ ap (λ (b : Bool). pages (cond b (mended (new k.past) c ∷ new k.past) (new k.past))) (sym e)

          same : (eop post : Bool)
              → (cond {A = Spot} eop (record { pages = p.pages; met = p.met; on = false; here = p.here; late = p.late })
              (cond {A = Spot} post (record { pages = p.pages; met = p.met; on = p.on; here = p.here; late = true }) p)).met ≡ p.met
          same true post = refl
          same false true = refl
          same false false = refl

          by : (bop : Bool) → is (kind_of_command c) Bop ≡ bop → (spot_after list (kind_of_command c) p).met ≡ pages (new (c ∷ k.past))
          by true bop =
              let chosen = next_chosen_lem there.allowed k.stands in
              let stay : stays (is_in list) k.past c ≡ next_chosen list p.met p.pages = rw bop (sym chosen) in
              let spot : (spot_after list (kind_of_command c) p).met ≡ cond (next_chosen list p.met p.pages) (p.met + 1) p.met = rw bop refl in
              spot ∙ begun (next_chosen list p.met p.pages) stay bop
          by false bop =
              let spot : (spot_after list (kind_of_command c) p).met ≡ p.met = rw bop (same (is (kind_of_command c) Eop) (is (kind_of_command c) Post)) in
              spot ∙ other (stays (is_in list) k.past c) bop refl

      -- the greatest depth of all is that before post
      deepest_there : kind_of_command c ≡ Post → counted.greatest ≡ greatest (new k.past)
      deepest_there e =
          let on = there.onward (rw e refl) in
          w.counts.greatest_is ∙ ap (λ (l : List Command). greatest (new l)) on.told ∙ post_greatest first (is_in list) c e on.follows

      small_place : place (new k.past) < 2 ^ 32
      small_place = omega (arith, grown, w.counts.small, w.lawful.0)

      -- the room that its fate asks
      pub room_to_turn : RoomToTurn fate (kind_of_command c) file at next m (length out)
      room_to_turn = by fate (becomes first list there.allowed k.stands)
        where
          same_place : m.size + (at - m.from) ≡ place (new k.past)
          same_place = place_is file list entry first k.done (omega (arith, inside k.walk))

          same_area : length out ≡ length entry
          same_area = area_length file list entry first k.done

          by : (fate : Fate) → Becomes first list k.past c fate → RoomToTurn fate (kind_of_command c) file at next m (length out)
          by Fate.Opening (opens, same) =
              (room_to_copy, omega arith, in_file, omega (arith, k.done.opened_is, ap place opens, opening_fits, w.fits, w.counts.all_is, w.counts.opened_is, same_area))
          by Fate.Copied (same, news, bop, post) = tt
          by Fate.Mended (same, news, kind) =
              let size = mended_size_lem (new k.past) c there.is_whole kind in
              (room_to_copy, in_file, omega (arith, size), omega (arith, size, same_place, new_fits, ap place news, mended_length (new k.past) c there.is_whole kind, w.fits, same_area))
          by Fate.Dropped (same, news) = room_to_copy

      -- what is written with it
      written_on : Written file list entry first next (c ∷ k.past) (spot_after list (kind_of_command c) p).met (made_after fate (kind_of_command c) at next m)
          (area_turned fate (kind_of_command c) counted.greatest p.met file at next m out)
      written_on = by fate (becomes first list there.allowed k.stands)
        where
          -- with the pages that are met behind it
          counted_pages : {made : Made} {area : List ℕ} → Written file list entry first next (c ∷ k.past) p.met made area → p.met ≡ pages (new (c ∷ k.past))
              → Written file list entry first next (c ∷ k.past) (spot_after list (kind_of_command c) p).met made area
          counted_pages {made} {area} d e = subst (λ (i : ℕ). Written file list entry first next (c ∷ k.past) i made area) (e ∙ sym met_on) d

          by : (fate : Fate) → Becomes first list k.past c fate
              → Written file list entry first next (c ∷ k.past) (spot_after list (kind_of_command c) p).met (made_after fate (kind_of_command c) at next m)
              (area_turned fate (kind_of_command c) counted.greatest p.met file at next m out)
          by Fate.Opening (opens, news) = counted_pages (to_opening file list entry first k.done c bytes f in_file opens news opening_fits) (k.done.met_is ∙ ap pages (sym news))
          by Fate.Copied (same, news, bop, post) =
              counted_pages
              (to_copy file list entry first k.done next (c ∷ k.past) (omega arith) same
              (ap forms_of news ∙ ap (λ (l : List ℕ). forms_of (new k.past) ++ l) (sym (between_form file at c bytes f)))
              (ap last_bop news ∙ rw bop refl) (ap post_place news ∙ rw post refl) (ap pages news ∙ rw bop refl))
              (k.done.met_is ∙ sym (ap pages news ∙ rw bop refl))
          by Fate.Mended (same, news, kind) =
              to_mend file list entry first k.done c bytes f in_file there.is_whole kind counted.greatest deepest_there small_place
              (omega (arith, post_small (new k.past), small_place)) _ same news met_on
          by Fate.Dropped (same, news) =
              counted_pages (dropped file list entry first k.done next (c ∷ k.past) (omega (arith, inside k.walk)) same news) (k.done.met_is ∙ ap pages (sym news))

      -- the walk goes on
      pub writing_on : is_a PostPost c ≡ false
          → Writing file list entry next (spot_after list (kind_of_command c) p) (made_after fate (kind_of_command c) at next m)
          (area_turned fate (kind_of_command c) counted.greatest p.met file at next m out)
      writing_on not_last =
          record { past = c ∷ k.past; walk = there.onward not_last; stands = stands_on there.allowed k.stands not_last; done = written_on }

      -- and ends with the whole list written
      pub writing_last : kind_of_command c ≡ PostPost
          → area_turned fate (kind_of_command c) counted.greatest p.met file at next m out ≡ sets entry 0 (forms_of (cut_past (is_in list) (history file)))
      writing_last e =
          let end : history file ≡ c ∷ k.past = there.at_last (rw e refl) in
          let is_fate : fate ≡ Fate.Mended = rw e refl in
          let begins : (made_after fate (kind_of_command c) at next m).from ≡ next = ap (λ (x : Fate). (made_after x (kind_of_command c) at next m).from) is_fate in
          let d = written_on in
          let all : forms_of (new (history file)) ≡ forms_of first ++ d.written =
          ap (λ (l : List Command). forms_of (new l)) end
          ∙ d.forms_are
          ∙ ap (λ (l : List ℕ). forms_of first ++ l)
          (ap (λ (n : ℕ). d.written ++ between n next file) begins ∙ ap (λ (l : List ℕ). d.written ++ l) (between_none file next) ∙ append-nil d.written) in
          let start : place first ≡ 0 + length (forms_of first) = omega (arith, forms_length first) in
          d.area_is
          ∙ ap (λ (l : List Command). sets (sets entry 0 (forms_of (opening l))) (place first) d.written) (sym end)
          ∙ ap (λ (n : ℕ). sets (sets entry 0 (forms_of first)) n d.written) start
          ∙ sets_behind entry 0 (forms_of first) d.written
          ∙ ap (sets entry 0) (sym all)

  -- ---- runs of plain commands, pushes, pops and selections

  -- what a run of them adds to the commands so far
  record Ran (p : Spot) (from at : ℕ) (before : List Command) : Type 0 where
    later : List Command
    walk : Walk file at later
    stands : Stands list later p
    same_opening : opening later ≡ opening before
    kept : p.here ≡ true → forms_of (new later) ≡ forms_of (new before) ++ between from at file
    same_bop : last_bop (new later) ≡ last_bop (new before)
    same_post : post_place (new later) ≡ post_place (new before)
    same_pages : pages (new later) ≡ pages (new before)
    gone : p.here ≡ false → new later ≡ new before

  no_run : {p : Spot} {at : ℕ} {before : List Command} → Walk file at before → Stands list before p → Ran p at at before
  no_run {at = at} {before = before} walk stands =
      record {
        later = before;
        walk = walk;
        stands = stands;
        same_opening = refl;
        kept = λ here. sym (ap (λ (l : List ℕ). forms_of (new before) ++ l) (between_none file at) ∙ append-nil (forms_of (new before)));
        same_bop = refl;
        same_post = refl;
        same_pages = refl;
        gone = λ here. refl;
      }

  module _ {p : Spot} {from at : ℕ} {before : List Command} (r : Ran p from at before) (on : p.on ≡ true) (c : Command) (bytes : List ℕ)
      (f : front (drop at file) ≡ whole c bytes) (t : is_idle (kind_of_command c) ≡ true) (ahead : from ≤ at) where
    abbrev idle_there : Met file at r.later c
    idle_there = met r.walk c bytes f

    idles : Idle list p (kind_of_command c)
    idles = idle list p (kind_of_command c) t

    fate_is : (here : Bool) → p.here ≡ here → fate_of (kind_of_command c) (spot_after list (kind_of_command c) p).here p ≡ cond here Fate.Copied Fate.Dropped
    fate_is here h =
        ap (λ (q : Spot). fate_of (kind_of_command c) q.here p) idles.same_spot ∙ idles.same_fate p.here ∙ ap₂ (λ (a b : Bool). cond (a && b) Fate.Copied Fate.Dropped) on h

    becomes_idle : (here : Bool) → p.here ≡ here → Becomes first list r.later c (cond here Fate.Copied Fate.Dropped)
    becomes_idle here h = subst (Becomes first list r.later c) (fate_is here h) (becomes first list idle_there.allowed r.stands)

    stands_still : Stands list (c ∷ r.later) p
    stands_still = subst (Stands list (c ∷ r.later)) idles.same_spot (stands_on idle_there.allowed r.stands idles.not_last)

    one_idle : Ran p from (at + (1 + length c.params)) before
    one_idle = by p.here refl
      where
        by : (here : Bool) → p.here ≡ here → Ran p from (at + (1 + length c.params)) before
        by true h =
            let (same, news, bop, post) = becomes_idle true h in
            record {
              later = c ∷ r.later;
              walk = idle_there.onward idles.not_last;
              stands = stands_still;
              same_opening = same ∙ r.same_opening;
              kept = λ here.
                  ap forms_of news
                  ∙ ap₂ (λ (a b : List ℕ). a ++ b) (r.kept here) (sym (between_form file at c bytes f))
                  ∙ append_assoc (forms_of (new before)) (between from at file) (between at (at + (1 + length c.params)) file)
                  ∙ ap (λ (l : List ℕ). forms_of (new before) ++ l) (sym (between_on file from at (at + (1 + length c.params)) ahead (omega arith)));
              same_bop = ap last_bop news ∙ rw bop r.same_bop;
              same_post = ap post_place news ∙ rw post r.same_post;
              same_pages = ap pages news ∙ rw bop r.same_pages;
              gone = λ no-here. absurd (true≢false (sym h ∙ no-here));
            }
        by false h =
            let (same, news) = becomes_idle false h in
            record {
              later = c ∷ r.later;
              walk = idle_there.onward idles.not_last;
              stands = stands_still;
              same_opening = same ∙ r.same_opening;
              kept = λ here. absurd (true≢false (sym here ∙ h));
              same_bop = ap last_bop news ∙ r.same_bop;
              same_post = ap post_place news ∙ r.same_post;
              same_pages = ap pages news ∙ r.same_pages;
              gone = λ no-here. news ∙ r.gone no-here;
            }

  ran : {p : Spot} {from r : Run} {before : List Command} → p.on ≡ true → Walk file from.at before → Stands list before p → Runs file from r → Ran p from.at r.at before
  ran on walk stands runs_none = no_run walk stands
  ran on walk stands (runs_on c bytes run f t) = one_idle (ran on walk stands run) on c bytes f t (runs_ahead run)

  -- a run, on a page or elsewhere
  pub writing_run : {at : ℕ} {p : Spot} {m : Made} {out : List ℕ} → Writing file list entry at p m out
      → (depth greatest : ℕ) (r : Run) → RunTo file p.on (run_at at depth greatest) r
      → Writing file list entry r.at p (cond p.here m (made_copied at r.at m)) (cond p.here out (area_copied file at m out))
  writing_run {at = at} {p = p} {m = m} {out = out} k depth greatest r run = by p.here refl (over p.on refl run)
    where
      over : (on : Bool) → p.on ≡ on → RunTo file on (run_at at depth greatest) r → Ran p at r.at k.past × (at ≤ r.at)
      over true on runs = (ran on k.walk k.stands runs, runs_ahead runs)
      over false on same = rw same (no_run k.walk k.stands, omega arith)

      by : (here : Bool) → p.here ≡ here → Ran p at r.at k.past × (at ≤ r.at)
          → Writing file list entry r.at p (cond here m (made_copied at r.at m)) (cond here out (area_copied file at m out))
      by true h (n, high) =
          record {
            past = n.later;
            walk = n.walk;
            stands = n.stands;
            done = to_copy file list entry first k.done r.at n.later high n.same_opening (n.kept h) n.same_bop n.same_post n.same_pages;
          }
      by false h (n, high) =
          record {
            past = n.later;
            walk = n.walk;
            stands = n.stands;
            done = dropped file list entry first k.done r.at n.later (omega (arith, inside k.walk)) n.same_opening (n.gone h);
          }

  -- the same walk in other words
  pub writing_same : {at there : ℕ} {p q : Spot} {m n : Made} {out area : List ℕ} → at ≡ there → p ≡ q → m ≡ n → out ≡ area → Writing file list entry there q n area → Writing file list entry at p m out
  writing_same place spot made areas k = rw (place, spot, made, areas) k

-- what the code's calls come to, one after the other
module _ (list file : List ℕ) (p after : Spot) (kind is_kind : Kind) (fate : Fate) (at next is_next : ℕ) (m : Made) (k : kind ≡ is_kind) (spot : after ≡ spot_after list kind p)
    (become : fate ≡ fate_of kind after.here p) (ends : next ≡ is_next) where
  abbrev is_fate : Fate
  is_fate = fate_of is_kind (spot_after list is_kind p).here p

  same_fate : fate ≡ is_fate
  same_fate = become ∙ rw (spot, k) refl

  pub room_same : (room : ℕ) → RoomToTurn is_fate is_kind file at is_next m room → RoomToTurn fate kind file at next m room
  room_same room r = rw (same_fate, k, ends) r

  pub made_same : (r : Made) → r ≡ made_after fate kind at next m → r ≡ made_after is_fate is_kind at is_next m
  made_same r e = e ∙ rw (same_fate, k, ends) refl

  pub area_same : (greatest met : ℕ) (out r : List ℕ) → r ≡ area_turned fate kind greatest met file at next m out
      → r ≡ area_turned is_fate is_kind greatest met file at is_next m out
  area_same greatest met out r e = e ∙ rw (same_fate, k, ends) refl
