-- The scan from command to command: what its loop keeps. Assumes nothing.
use mathlib.Core.Path.{◌≡◌, refl, sym, ap, ap₂, subst, ◌∙◌}
use mathlib.Core.Bool.{Bool, true, false, cond, not, ◌||◌}
use mathlib.Core.List.{List, [], ◌∷◌}
use Prim.Native.Nat.{ℕ, zero, suc, ◌+◌, ◌≤◌, ◌<◌}
use native.Mathlib.Numerals.{add-one}
use native.Mathlib.Omega.{arith}
use lib.Dec.{ltb}
use lib.ListN.{length, take, drop, get_or, set, replicate, drop_of_length-le, length-drop}
use lib.Seq.{drop-cons}
use borrow.Author.Tests.{ltb-true, ltb-false, lt-ltb, le-ltb}
use Rattle.std.specs.Prelude.{Option, Some, None}
use Rattle.refusals.specs.Answer.{Answer, refused, given, refuse_if}
use Rattle.commands.specs.Commands.{Command, place}
use Rattle.packed.specs.declared.Found.{Found}
use Rattle.packed.specs.declared.Note.{Note}
use Rattle.packed.specs.Commands.{is_packet, is_postamble, param_bytes}
use Rattle.packed.specs.Packets.{code_in}
use Rattle.packed.specs.Rules.{ended, font_fault, places, packets}
use Rattle.packed.specs.Judged.{taken, font_judged_from, font_judged, note_of}
use Rattle.packed.specs.Steps.{found_at, note_with}
use Rattle.packed.proofs.Faults.{packet_right, taken_length, counted_taken, code_taken, number_same}
use Rattle.packed.proofs.Says.{fault_number, number_at, Faulty, Right, found_number, found_faulty, found_right}
use Rattle.packed.proofs.Standing.{Standing, start, more, behind}
use Rattle.packed.proofs.Noted.{marked}

-- the commands before stand in the file up to a place, the code's note says what they amount to, and judging on from there is judging the file
pub record Going (pk : List ℕ) (at : ℕ) (passed : Bool) (note : Note) : Type 0 where
  pub past : List Command
  pub fuel : ℕ
  pub same : font_judged_from fuel past (drop at pk) ≡ font_judged pk
  pub enough : length pk < fuel + at
  pub within : at ≤ length pk
  pub stand : Standing pk past
  pub at_is : place past ≡ at
  pub passed_is : ended past ≡ passed
  pub note_is : note_of past ≡ note
  pub few : note.packets ≤ at

pub going_start : (pk : List ℕ) → Going pk 0 false (record { places = replicate 256 0; packets = 0 })
unfolding font_judged
going_start pk =
    record {
      past = [];
      fuel = suc (length pk);
      same = refl;
      enough = omega arith;
      within = omega arith;
      stand = start;
      at_is = refl;
      passed_is = refl;
      note_is = refl;
      few = omega arith;
    }

-- ---- one command

from_cons : (k : ℕ) (past : List Command) (opcode : ℕ) (rest : List ℕ)
    → font_judged_from (suc k) past (opcode ∷ rest)
    ≡ refuse_if (ltb (length rest) (param_bytes opcode rest)) 18 (place past)
    (refuse_if (ltb 0 (font_fault past (taken opcode rest))) (font_fault past (taken opcode rest)) (place past)
    (font_judged_from k (taken opcode rest ∷ past) (drop (param_bytes opcode rest) rest)))
unfolding font_judged_from
from_cons k past opcode rest = refl

from_end : (k : ℕ) (past : List Command) → font_judged_from (suc k) past [] ≡ refuse_if (not (ended past)) 18 (place past) (given past)
unfolding font_judged_from
from_end k past = refl

-- two tests one after the other, by the number that is due
module _ {A : Type 0} (cut : Bool) (due number at : ℕ) (next : Answer A) where
  refused_by : (cut ≡ true → number ≡ 18) → (cut ≡ false → number ≡ due) → 0 < number → refuse_if cut 18 at (refuse_if (ltb 0 due) due at next) ≡ refused number at
  refused_by first second some = go cut refl
    where
      go : (b : Bool) → cut ≡ b → refuse_if b 18 at (refuse_if (ltb 0 due) due at next) ≡ refused number at
      go true e = ap (λ (n : ℕ). refused n at) (sym (first e))
      go false e = rw (lt-ltb 0 due (omega (arith, second e))) (ap (λ (n : ℕ). refused n at) (sym (second e)))

  goes_by : (cut ≡ true → number ≡ 18) → (cut ≡ false → number ≡ due) → number ≡ 0 → (cut ≡ false) × (due ≡ 0) × (refuse_if cut 18 at (refuse_if (ltb 0 due) due at next) ≡ next)
  goes_by first second zero_is = go cut refl
    where
      go : (b : Bool) → cut ≡ b → (b ≡ false) × (due ≡ 0) × (refuse_if b 18 at (refuse_if (ltb 0 due) due at next) ≡ next)
      go true e = absurd (omega (arith, first e, zero_is))
      go false e = (refl, omega (arith, second e, zero_is), rw (le-ltb 0 due (omega (arith, second e, zero_is))) refl)

module _ (pk : List ℕ) (at : ℕ) (passed : Bool) (note : Note) (g : Going pk at passed note) (inside : at < length pk) where
  abbrev opcode : ℕ
  opcode = get_or pk at 0

  abbrev rest : List ℕ
  rest = drop (at + 1) pk

  here_at : drop at pk ≡ opcode ∷ rest
  here_at = drop-cons pk at 0 inside ∙ ap (λ (n : ℕ). opcode ∷ drop n pk) (sym (add-one at))

  here : drop (place g.past) pk ≡ opcode ∷ rest
  here = ap (λ (n : ℕ). drop n pk) g.at_is ∙ here_at

  abbrev cut : Bool
  cut = ltb (length rest) (param_bytes opcode rest)

  abbrev found : Answer Found
  found = found_at at passed note.places opcode rest

  cut_number : cut ≡ true → fault_number found ≡ 18
  cut_number e = found_number at passed note.places opcode rest ∙ ap (λ (b : Bool). cond b 18 (number_at at passed note.places opcode rest)) e

  due_number : cut ≡ false → fault_number found ≡ font_fault g.past (taken opcode rest)
  due_number e =
      let fits = ltb-false (length rest) (param_bytes opcode rest) e in
      found_number at passed note.places opcode rest
      ∙ ap (λ (b : Bool). cond b 18 (number_at at passed note.places opcode rest)) e
      ∙ ap₂ (λ (n : ℕ) (b : Bool). number_at n b note.places opcode rest) (sym g.at_is) (sym g.passed_is)
      ∙ number_same opcode rest fits g.past note.places (λ code. marked pk g.past g.stand code ∙ ap (λ (n : Note). ltb 0 (get_or n.places code 0)) g.note_is)

  -- the judging, opened at this command
  opened : (k : ℕ) → g.fuel ≡ suc k
      → refuse_if cut 18 (place g.past)
      (refuse_if (ltb 0 (font_fault g.past (taken opcode rest))) (font_fault g.past (taken opcode rest)) (place g.past)
      (font_judged_from k (taken opcode rest ∷ g.past) (drop (param_bytes opcode rest) rest)))
      ≡ font_judged pk
  opened k e =
      sym (from_cons k g.past opcode rest)
      ∙ ap₂ (λ (n : ℕ) (l : List ℕ). font_judged_from n g.past l) (sym e) (sym here_at)
      ∙ g.same

  pub going_refused : (number spot : ℕ) → found ≡ refused number spot → font_judged pk ≡ refused number spot
  going_refused number spot is = go g.fuel refl
    where
      faulty : Faulty at number spot
      faulty = found_faulty at passed note.places opcode rest number spot is

      number_is : fault_number found ≡ number
      number_is = ap fault_number is

      go : (fuel : ℕ) → g.fuel ≡ fuel → font_judged pk ≡ refused number spot
      go zero e = absurd (omega (arith, g.enough, e))
      go (suc k) e =
          sym (opened k e)
          ∙ refused_by cut (font_fault g.past (taken opcode rest)) (fault_number found) (place g.past) _ cut_number due_number (omega (arith, number_is, faulty.some))
          ∙ ap₂ refused number_is (g.at_is ∙ sym faulty.here)

  -- what is noted of the command is what the rules note
  module _ (f : Found) (right : Right at opcode rest f) (lawful : font_fault g.past (taken opcode rest) ≡ 0) where
    abbrev next : List Command
    next = taken opcode rest ∷ g.past

    code_is : opcode < 240 → code_in opcode (take (param_bytes opcode rest) rest) ≡ code_in opcode rest
    code_is flag =
        let whole = packet_right g.past (taken opcode rest) lawful (lt-ltb opcode 240 flag) in
        code_taken opcode rest right.fits flag (omega (arith, whole.room, counted_taken opcode rest right.fits))

    note_next : (b : Bool) → is_packet opcode ≡ b
        → record {
          places = cond b (set (places g.past) (code_in opcode (take (param_bytes opcode rest) rest)) (place g.past)) (places g.past);
          packets = cond b (packets g.past + 1) (packets g.past);
        }
        ≡ note_with f.code at note
    note_next true e =
        let flag = ltb-true opcode 240 e in
        ap₂ (λ (c p : ℕ). note_with (Some c) p (note_of g.past)) (code_is flag) g.at_is
        ∙ ap₂ (λ (o : Option ℕ) (n : Note). note_with o at n) (sym (right.packet flag)) g.note_is
    note_next false e = g.note_is ∙ ap (λ (o : Option ℕ). note_with o at note) (sym (right.other (ltb-false opcode 240 e)))

    few_next : (o : Option ℕ) → (note_with o at note).packets ≤ at + 1
    few_next (Some code) = omega (arith, g.few)
    few_next None = omega (arith, g.few)

    pub step : (k : ℕ) → g.fuel ≡ suc k → font_judged_from k next (drop (param_bytes opcode rest) rest) ≡ font_judged pk
        → Going pk f.next (is_postamble opcode || passed) (note_with f.code at note)
    step k e onward =
        let place_is : place next ≡ f.next = omega (arith, right.next, taken_length opcode rest right.fits, g.at_is) in
        record {
          past = next;
          fuel = k;
          same =
              ap (font_judged_from k next) (ap (λ (n : ℕ). drop n pk) (sym place_is) ∙ behind pk g.past opcode rest here right.fits)
              ∙ onward;
          enough = omega (arith, g.enough, e, right.next);
          within = omega (arith, right.next, right.fits, length-drop (at + 1) pk);
          stand = more opcode rest g.stand here right.fits lawful;
          at_is = place_is;
          passed_is = ap (λ (b : Bool). is_postamble opcode || b) g.passed_is;
          note_is = note_next (is_packet opcode) refl;
          few = omega (arith, few_next f.code, right.next);
        }

  pub going_on : (f : Found) → found ≡ given f → (later : Bool) → (is_postamble opcode || passed) ≡ later → (after : Note) → after ≡ note_with f.code at note → Going pk f.next later after
  going_on f is later later_is after after_is =
      subst (λ (b : Bool). Going pk f.next b after) later_is (subst (λ (n : Note). Going pk f.next (is_postamble opcode || passed) n) (sym after_is) (go g.fuel refl))
    where
      go : (fuel : ℕ) → g.fuel ≡ fuel → Going pk f.next (is_postamble opcode || passed) (note_with f.code at note)
      go zero e = absurd (omega (arith, g.enough, e))
      go (suc k) e =
          let none = goes_by cut (font_fault g.past (taken opcode rest)) (fault_number found) (place g.past) (font_judged_from k (taken opcode rest ∷ g.past) (drop (param_bytes opcode rest) rest)) cut_number due_number (ap fault_number is) in
          step f (found_right at passed note.places opcode rest f is) none.1 k e (sym none.2 ∙ opened k e)

-- ---- the end

pub going_end : (pk : List ℕ) (at : ℕ) (passed : Bool) (note : Note) (g : Going pk at passed note) → length pk ≤ at
    → font_judged pk ≡ refuse_if (not passed) 18 at (given g.past)
going_end pk at passed note g past_end = go g.fuel refl
  where
    go : (fuel : ℕ) → g.fuel ≡ fuel → font_judged pk ≡ refuse_if (not passed) 18 at (given g.past)
    go zero e = absurd (omega (arith, g.enough, e, g.within))
    go (suc k) e =
        sym g.same
        ∙ ap₂ (λ (n : ℕ) (l : List ℕ). font_judged_from n g.past l) e (drop_of_length-le pk past_end)
        ∙ from_end k g.past
        ∙ ap₂ (λ (b : Bool) (n : ℕ). refuse_if (not b) 18 n (given g.past)) g.passed_is g.at_is
