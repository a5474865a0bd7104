-- New places: where the commands of a list stand in the new one, and a page's commands moved there. Assumes nothing.
use Prim.Native.Nat.{ℕ, ◌<◌}
use mathlib.Core.Path.{◌≡◌, refl, sym, ap, ap₂, ◌∙◌}
use mathlib.Core.Bool.{Bool, true, false, cond}
use mathlib.Core.List.{List, [], ◌∷◌, ◌++◌}
use native.Mathlib.Omega.{arith}
use borrow.Author.Tests.{eq-eqb, ne_eqb}
use Rattle.commands.specs.declared.Kind.TheVariants.{Define}
use Rattle.commands.specs.Commands.{Command, place}
use Rattle.list.specs.Past.{is_a}
use Rattle.turns.specs.Placing.{Located}
use Rattle.page.specs.PageList.{is_on, page_of}
use Rattle.cutting.specs.CutList.{cut_after}
use Rattle.rewritten.specs.OldWords.{new_place_after}
use Rattle.rewritten.proofs.Likeness.{moved_commands}

-- ---- the new place of a command

module _ (first : List Command) (chosen : ℕ → Bool) where
  -- the newest command's is behind what is made of those before it
  pub newest_place : (past : List Command) (c : Command) → new_place_after first chosen (c ∷ past) (place past) ≡ place (cut_after first chosen past)
  newest_place past c = rw (eq-eqb (place past) (place past) refl)

  -- one command more changes no place of those before it
  pub place_kept : (past : List Command) (c : Command) (at : ℕ) → at < place past → new_place_after first chosen (c ∷ past) at ≡ new_place_after first chosen past at
  place_kept past c at h = rw (ne_eqb (place past) at (λ e. omega arith))

  -- a command stands before those that follow it
  behind : (later past : List Command) (c : Command) → place past < place (later ++ (c ∷ past))
  behind [] past c = omega arith
  behind (d ∷ later) past c = omega (arith, behind later past c)

  -- so a command's new place is behind what is made of those before it, whatever follows it
  pub place_there : (later past : List Command) (c : Command)
      → new_place_after first chosen (later ++ (c ∷ past)) (place past) ≡ place (cut_after first chosen past)
  place_there [] past c = newest_place past c
  place_there (d ∷ later) past c = place_kept (later ++ (c ∷ past)) d (place past) (behind later past c) ∙ place_there later past c

-- ---- a page's commands at other places

module _ (moved : ℕ → ℕ) where
  more : (cs : List Located) (l : Located)
      → moved_commands moved (cs ++ (l ∷ []))
      ≡ cond (is_a Define l.command) (moved_commands moved cs) (moved_commands moved cs ++ (record { at = moved l.at; command = l.command } ∷ []))
  more [] l = refl
  more (c ∷ cs) l = by (is_a Define c.command) (is_a Define l.command) (more cs l)
    where
      here : Located
      here = record { at = moved c.at; command = c.command }

      last : List Located
      last = record { at = moved l.at; command = l.command } ∷ []

      by : (one other : Bool) → moved_commands moved (cs ++ (l ∷ [])) ≡ cond other (moved_commands moved cs) (moved_commands moved cs ++ last)
          → cond one (moved_commands moved (cs ++ (l ∷ []))) (here ∷ moved_commands moved (cs ++ (l ∷ [])))
          ≡ cond other (cond one (moved_commands moved cs) (here ∷ moved_commands moved cs)) (cond one (moved_commands moved cs) (here ∷ moved_commands moved cs) ++ last)
      by true true e = e
      by true false e = e
      by false true e = ap (λ (x : List Located). here ∷ x) e
      by false false e = ap (λ (x : List Located). here ∷ x) e

  -- a definition more is left out
  pub moved_define : (cs : List Located) (l : Located) → is_a Define l.command ≡ true → moved_commands moved (cs ++ (l ∷ [])) ≡ moved_commands moved cs
  moved_define cs l e = more cs l ∙ rw e

  -- another command more is moved too
  pub moved_plain : (cs : List Located) (l : Located) → is_a Define l.command ≡ false
      → moved_commands moved (cs ++ (l ∷ [])) ≡ moved_commands moved cs ++ (record { at = moved l.at; command = l.command } ∷ [])
  moved_plain cs l e = more cs l ∙ rw e

module _ (page : ℕ) (moved other : ℕ → ℕ) where
  -- places that are the same before the end of a list move the page's commands alike
  pub moved_same : (past : List Command) → ((at : ℕ) → at < place past → moved at ≡ other at)
      → moved_commands moved (page_of page past) ≡ moved_commands other (page_of page past)
  moved_same [] same = refl
  moved_same (c ∷ past) same = by (is_on page past c) (is_a Define c) refl (moved_same past (λ at h. same at (omega arith)))
    where
      here : Located
      here = record { at = place past; command = c }

      by : (on define : Bool) → is_a Define c ≡ define → moved_commands moved (page_of page past) ≡ moved_commands other (page_of page past)
          → moved_commands moved (cond on (page_of page past ++ (here ∷ [])) (page_of page past))
          ≡ moved_commands other (cond on (page_of page past ++ (here ∷ [])) (page_of page past))
      by false define d before = before
      by true true d before = moved_define moved (page_of page past) here d ∙ before ∙ sym (moved_define other (page_of page past) here d)
      by true false d before =
          moved_plain moved (page_of page past) here d
          ∙ ap₂ (λ (x : List Located) (at : ℕ). x ++ (record { at = at; command = c } ∷ [])) before (same (place past) (omega arith))
          ∙ sym (moved_plain other (page_of page past) here d)
