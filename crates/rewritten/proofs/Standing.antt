-- A command of a chosen page that is no definition stands in the new list too, behind what is made of the commands before it. Assumes nothing.
use Prim.Native.Nat.{ℕ}
use mathlib.Core.Path.{◌≡◌, refl, sym, ap, ap₂, ◌∙◌, subst}
use mathlib.Core.Bool.{Bool, true, false, cond, not, ◌&&◌, false≢true}
use mathlib.Core.List.{List, [], ◌∷◌, ◌++◌}
use mathlib.Core.Logic.{◌⊎◌, inl, inr}
use lib.Dec.{eqb}
use borrow.Author.Tests.{eqb-true}
use Rattle.commands.specs.declared.Kind.TheVariants.{Eop, Define}
use Rattle.commands.specs.Commands.{Command, kind_of_command, place}
use Rattle.list.specs.Past.{is_a, stage, is_on_page, pages}
use Rattle.list.specs.Rules.{Allowed}
use Rattle.turns.specs.Placing.{Located}
use Rattle.page.specs.PageList.{is_on, page_of}
use Rattle.cutting.specs.CutList.{opening, stays, mended, cut_after, cut_past}
use Rattle.cutting.proofs.Turning.{Turn, starts, idles, defines_early, begins, within, finishes, posts, idles_late, defines_again, ends, turn_of}
use Rattle.rewritten.specs.OldWords.{new_place_after}
use Rattle.rewritten.specs.SameCommand.{SameCommand}
use Rattle.rewritten.proofs.Unwinding.{Sound, start, more, Closed}
use Rattle.rewritten.proofs.NewPlaces.{place_there}

-- ---- in the old list

-- a command is at a place among a page's commands
abbrev pub IsAmong : ℕ → Command → List Located → Type 0
IsAmong at c [] = ⊥
IsAmong at c (l ∷ rest) = ((at ≡ l.at) × (c ≡ l.command)) ⊎ IsAmong at c rest

among_more : (at : ℕ) (c : Command) (cs : List Located) (l : Located) → IsAmong at c (cs ++ (l ∷ [])) → IsAmong at c cs ⊎ ((at ≡ l.at) × (c ≡ l.command))
among_more at c [] l (inl here) = inr here
among_more at c [] l (inr there) = elim there [ ]
among_more at c (d ∷ cs) l (inl here) = inl (inl here)
among_more at c (d ∷ cs) l (inr there) = on (among_more at c cs l there)
  where
    on : IsAmong at c cs ⊎ ((at ≡ l.at) × (c ≡ l.command)) → IsAmong at c (d ∷ cs) ⊎ ((at ≡ l.at) × (c ≡ l.command))
    on (inl before) = inl (inr before)
    on (inr last) = inr last

-- a page's command in the list: what follows it, what stands before it, and that it keeps the rules there
pub record Standing (page at : ℕ) (c : Command) (old : List Command) : Type 0 where
  pub later : List Command
  pub before : List Command
  pub is_list : old ≡ later ++ (c ∷ before)
  pub place_is : at ≡ place before
  pub allowed : Allowed before c
  pub on_page : is_on page before c ≡ true

module _ (page at : ℕ) (c : Command) where
  -- with one command more
  with_more : {past : List Command} {d : Command} → Allowed past d → (IsAmong at c (page_of page past) → Standing page at c past)
      → IsAmong at c (page_of page (d ∷ past)) → Standing page at c (d ∷ past)
  with_more {past} {d} allowed deeper among = by (is_on page past d) refl among
    where
      here : Located
      here = record { at = place past; command = d }

      further : Standing page at c past → Standing page at c (d ∷ past)
      further s =
          record {
            later = d ∷ s.later;
            before = s.before;
            is_list = ap (λ (l : List Command). d ∷ l) s.is_list;
            place_is = s.place_is;
            allowed = s.allowed;
            on_page = s.on_page;
          }

      newest : is_on page past d ≡ true → IsAmong at c (page_of page past) ⊎ ((at ≡ place past) × (c ≡ d)) → Standing page at c (d ∷ past)
      newest on (inl before) = further (deeper before)
      newest on (inr (there, same)) =
          record {
            later = [];
            before = past;
            is_list = ap (λ (x : Command). x ∷ past) (sym same);
            place_is = there;
            allowed = subst (Allowed past) (sym same) allowed;
            on_page = subst (λ (x : Command). is_on page past x ≡ true) (sym same) on;
          }

      by : (on : Bool) → is_on page past d ≡ on → IsAmong at c (cond on (page_of page past ++ (here ∷ [])) (page_of page past)) → Standing page at c (d ∷ past)
      by true is-on there = newest is-on (among_more at c (page_of page past) here there)
      by false is-on there = further (deeper there)

  before_end : {past : List Command} → Sound past → IsAmong at c (page_of page past) → Standing page at c past
  before_end start among = elim among [ ]
  before_end (more sound w allowed not_last) among = with_more allowed (before_end sound) among

  -- so each of a page's commands stands in the whole list
  pub standing : {past : List Command} {end : Command} → Closed past end → IsAmong at c (page_of page (end ∷ past)) → Standing page at c (end ∷ past)
  standing closed = with_more closed.allowed (before_end closed.sound)

-- ---- in the new list

module _ (first : List Command) (chosen : ℕ → Bool) where
  -- the new list of more commands goes on from that of fewer
  cut_goes_on : (later past : List Command) → (new_later : List Command) × (cut_after first chosen (later ++ past) ≡ new_later ++ cut_after first chosen past)
  cut_goes_on [] past = ([], refl)
  cut_goes_on (c ∷ later) past = by (stays chosen (later ++ past) c) (cut_goes_on later past)
    where
      new : List Command
      new = cut_after first chosen (later ++ past)

      by : (stay : Bool) → (new_later : List Command) × (new ≡ new_later ++ cut_after first chosen past)
          → (new_later : List Command) × (cond stay (mended new c ∷ new) new ≡ new_later ++ cut_after first chosen past)
      by true (new_later, e) = (mended new c ∷ new_later, ap (λ (l : List Command). mended new c ∷ l) e)
      by false before = before

  -- a chosen page's command that is no definition is the next of the new list, as it is
  cut_own : {page : ℕ} {before : List Command} {c : Command} → chosen page ≡ true → Allowed before c → is_on page before c ≡ true → is_a Define c ≡ false
      → cut_after first chosen (c ∷ before) ≡ c ∷ cut_after first chosen before
  cut_own {page} {before} {c} this allowed on_page d = by (turn_of allowed)
    where
      on_some : (x y z : Bool) → (x && (y && not z)) ≡ true → (x ≡ true) × (y ≡ true) × (z ≡ false)
      on_some true true false e = (refl, refl, refl)
      on_some true true true e = absurd (false≢true e)
      on_some true false z e = absurd (false≢true e)
      on_some false y z e = absurd (false≢true e)

      parts : (is_on_page (stage before) ≡ true) × (eqb (pages before) page ≡ true) × (is_a Eop c ≡ false)
      parts = on_some (is_on_page (stage before)) (eqb (pages before) page) (is_a Eop c) on_page

      here : chosen (pages before) ≡ true
      here = ap chosen (eqb-true (pages before) page parts.1) ∙ this

      out : is_on_page (stage before) ≡ false → cut_after first chosen (c ∷ before) ≡ c ∷ cut_after first chosen before
      out e = absurd (false≢true (sym e ∙ parts.0))

      by : Turn (stage before) (kind_of_command c) → cut_after first chosen (c ∷ before) ≡ c ∷ cut_after first chosen before
      by (starts at k) = out (rw at)
      by (idles outside k) = out outside.closed
      by (defines_early outside k) = out outside.closed
      by (begins outside k) = out outside.closed
      by (within at inner) = rw (inner.no_bop, at, here, d, inner.no_post, inner.no_end)
      by (finishes at k) = absurd (false≢true (sym parts.2 ∙ rw k))
      by (posts at k) = out (rw at)
      by (idles_late at k) = out (rw at)
      by (defines_again at k) = out (rw at)
      by (ends at k) = out (rw at)

-- so it is the same command in both lists, and its new place is its place in the new one
pub same_command : {page at : ℕ} {c : Command} (old new : List Command) (chosen : ℕ → Bool) → new ≡ cut_past chosen old → chosen page ≡ true → is_a Define c ≡ false
    → Standing page at c old → SameCommand old new chosen at
same_command {c = c} old new chosen new-list this plain s =
    let first = opening old in
    let (new_later, goes_on) = cut_goes_on first chosen s.later (c ∷ s.before) in
    record {
      command = c;
      before = s.before;
      later = s.later;
      new_later = new_later;
      old_is = s.is_list;
      old_place = s.place_is;
      new_is =
          new-list ∙ ap (cut_after first chosen) s.is_list ∙ goes_on
          ∙ ap (λ (l : List Command). new_later ++ l) (cut_own first chosen this s.allowed s.on_page plain);
      new_place_is = ap₂ (new_place_after first chosen) s.is_list s.place_is ∙ place_there first chosen s.later s.before c;
    }
