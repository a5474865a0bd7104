-- One turn of the scan: what the code holds stands for the commands so far, before one more and after it. Assumes nothing.
use mathlib.Core.Path.{◌≡◌, refl, sym, ap, ap₂, ◌∙◌, subst}
use mathlib.Core.Bool.{Bool, true, false, not, ◌&&◌, ◌||◌, and-eq-true_iff, false≢true}
use mathlib.Core.List.{List, [], ◌∷◌}
use Prim.Native.Nat.{ℕ, zero, suc, ◌+◌, ◌≤◌}
use native.Mathlib.Omega.{arith}
use lib.ListN.{length, drop, replicate, get_or-replicate, length-drop}
use lib.Seq.{drop_at, drop-drop}
use native.Mathlib.Numerals.{one-add}
use borrow.Author.Tests.{le-ltb}
use Rattle.refusals.specs.Numbers.{file_ends, undefined_opcode}
use Rattle.refusals.specs.Answer.{refused}
use Rattle.commands.specs.declared.Kind.TheVariants.{Define, PostPost}
use Rattle.commands.specs.Kinds.{is}
use Rattle.commands.specs.Commands.{Command, form, kind_of_command, Front, cut, undefined, whole, front, place}
use Rattle.commands.specs.Reading.{reading, read_at, longest_file}
use Rattle.commands.proofs.Fronts.{front_sound, front_length}
use Rattle.list.specs.declared.Stage.{Stage}
use Rattle.list.specs.declared.Stage.TheVariants.{OnPage}
use Rattle.list.specs.declared.Volume.{Volume}
use Rattle.list.specs.Past.{is_a, stage, selected, font_number}
use Rattle.list.specs.Rules.{lawful_font, lawful_definition, font_left_out, fault}
use Rattle.volume.specs.Judged.{summary, tail, judged_from, judged}
use Rattle.volume.specs.History.{history_from, history}
use Rattle.list.specs.Steps.{volume_of, after_of, table_after, Tells, Agrees}
use Rattle.volume.specs.Steps.{Going, is_plain, Passes, none_more, one_more}
use Rattle.list.proofs.FaultLaws.{all_kept}
use Rattle.volume.proofs.Turns.{judged_cut, judged_undefined, judged_faulty, judged_last, judged_onward, history_last, history_onward}
use Rattle.volume.proofs.Bounds.{depth_reached}
use Rattle.volume.proofs.Tables.{tells_after, standing_after, lawfully_after}
use Rattle.volume.proofs.PlainLaws.{placed_at, plain_after, plain_table, plain_fault, plain_not_last}

-- a definition that keeps the rules has a lawful number
pub lawful_number : (past : List Command) (c : Command) → fault past c ≡ 0 → is (kind_of_command c) Define ≡ true → lawful_font (font_number c) ≡ true
lawful_number past c clean t = first (is_a Define c) t (lawful_definition past c) refl (is_a PostPost c && font_left_out past) (all_kept past c clean).definition
  where
    first : (d : Bool) → d ≡ true → (l : Bool) → lawful_definition past c ≡ l → (e : Bool) → ((d && not l) || e) ≡ false → lawful_font (font_number c) ≡ true
    first true t true q e h = ((and-eq-true_iff (lawful_font (font_number c)) _).0 q).0
    first true t false q e h = absurd (false≢true (sym h))
    first false t l q e h = absurd (false≢true t)

-- ---- the start

pub starting : (file : List ℕ) (page : ℕ) → length file ≤ longest_file → Going file page (volume_of page []) (replicate 256 0) (replicate 256 0)
unfolding judged history
starting file page h =
    record {
      past = [];
      left = suc (length file);
      agrees =
          record {
            state = refl;
            early = record { full = refl; entry = λ n l. get_or-replicate 256 n 0 0 l };
            late = record { full = refl; entry = λ n l. get_or-replicate 256 n 0 0 l };
            standing = λ n. tt;
            lawfully = λ number l. refl;
          };
      judgement = rw (le-ltb longest_file (length file) h);
      told = refl;
      enough = omega arith;
      inside = omega arith;
      short = h;
    }

-- ---- one turn

module _ {file : List ℕ} {page : ℕ} {v : Volume} {fonts again : List ℕ} (g : Going file page v fonts again) where
  pub at_is : v.at ≡ place g.past
  at_is = ap (λ (w : Volume). w.at) g.agrees.state

  -- there is fuel for a turn
  more : {A : Type 0} → ((left : ℕ) → g.left ≡ suc left → A) → A
  more {A} next = by g.left refl
    where
      by : (left : ℕ) → g.left ≡ left → A
      by zero e = absurd (omega (arith, g.enough, g.inside))
      by (suc left) e = next left e

  -- what stands at the place that the code holds, stands after the commands so far
  ahead_is : {x : Front} → front (drop v.at file) ≡ x → front (drop (place g.past) file) ≡ x
  ahead_is {x} e = subst (λ (n : ℕ). front (drop n file) ≡ x) at_is e

  -- no command was read
  pub turn_unread : (number at : ℕ) → read_at file v.at ≡ refused number at → judged file ≡ refused number at
  turn_unread number at e =
      more (λ left enough. g.judgement ∙ ap (λ (n : ℕ). judged_from n g.past (drop (place g.past) file)) enough
      ∙ by left (front (drop (place g.past) file)) refl (subst (λ (n : ℕ). reading n (front (drop n file)) ≡ refused number at) at_is e))
    where
      by : (left : ℕ) (x : Front) → front (drop (place g.past) file) ≡ x → reading (place g.past) x ≡ refused number at
          → judged_from (suc left) g.past (drop (place g.past) file) ≡ refused number at
      by left cut q r = let n : file_ends ≡ number = cc in let p : place g.past ≡ at = cc in judged_cut left g.past _ q ∙ ap₂ refused n p
      by left undefined q r = let n : undefined_opcode ≡ number = cc in let p : place g.past ≡ at = cc in judged_undefined left g.past _ q ∙ ap₂ refused n p
      by left (whole c rest) q r = let z : ◌≡◌ {A = ℕ} 0 1 = cc in absurd (omega arith)

  -- a command was read
  module _ (c : Command) (rest : List ℕ) (ahead : front (drop v.at file) ≡ whole c rest) where
    -- it breaks a rule
    pub turn_faulty : (n : ℕ) → fault g.past c ≡ n → (n ≡ 0 → ⊥) → judged file ≡ refused n v.at
    turn_faulty n e h =
        more (λ left enough. g.judgement ∙ ap (λ (m : ℕ). judged_from m g.past (drop (place g.past) file)) enough
        ∙ judged_faulty left g.past _ c rest (ahead_is ahead) n e h ∙ ap (refused n) (sym at_is))

    module _ (clean : fault g.past c ≡ 0) where
      -- it ends the list
      pub turn_last : is_a PostPost c ≡ true → judged file ≡ tail (summary (c ∷ g.past)) (place (c ∷ g.past)) 0 rest
      turn_last l =
          more (λ left enough. g.judgement ∙ ap (λ (m : ℕ). judged_from m g.past (drop (place g.past) file)) enough
          ∙ judged_last left g.past _ c rest (ahead_is ahead) clean l)

      pub told_last : is_a PostPost c ≡ true → history file ≡ c ∷ g.past
      told_last l =
          more (λ left enough. g.told ∙ ap (λ (m : ℕ). history_from m g.past (drop (place g.past) file)) enough
          ∙ history_last left g.past _ c rest (ahead_is ahead) l)

      -- what the code holds after it
      pub agrees_after : Agrees file page (after_of page v (kind_of_command c) c.params)
          (table_after false v.stage (kind_of_command c) c.opcode c.params v.at fonts)
          (table_after true v.stage (kind_of_command c) c.opcode c.params v.at again) (c ∷ g.past)
      agrees_after =
          let a = g.agrees in
          let p = g.past in
          let table : Bool → List ℕ → Stage → ℕ → List ℕ = λ after t s n. table_after after s (kind_of_command c) c.opcode c.params n t in
          let stage_is : stage p ≡ v.stage = sym (ap (λ (w : Volume). w.stage) a.state) in
          let place_is : place p ≡ v.at = sym at_is in
          let named = lawful_number p c clean in
          record {
            state = ap (λ (w : Volume). after_of page w (kind_of_command c) c.params) a.state;
            early = subst (λ (t : List ℕ). Tells false t (c ∷ p)) (ap₂ (table false fonts) stage_is place_is) (tells_after p c named false fonts a.early);
            late = subst (λ (t : List ℕ). Tells true t (c ∷ p)) (ap₂ (table true again) stage_is place_is) (tells_after p c named true again a.late);
            standing = standing_after p c named file rest (ahead_is ahead) a.standing;
            lawfully = lawfully_after p c named a.lawfully;
          }

      -- the list goes on
      pub turn_onward : is_a PostPost c ≡ false → rest ≡ drop (place (c ∷ g.past)) file → place (c ∷ g.past) ≤ length file
          → Going file page (after_of page v (kind_of_command c) c.params)
          (table_after false v.stage (kind_of_command c) c.opcode c.params v.at fonts)
          (table_after true v.stage (kind_of_command c) c.opcode c.params v.at again)
      turn_onward l after inside =
          more (λ left enough.
          record {
            past = c ∷ g.past;
            left = left;
            agrees = agrees_after;
            judgement =
                g.judgement ∙ ap (λ (m : ℕ). judged_from m g.past (drop (place g.past) file)) enough
                ∙ judged_onward left g.past _ c rest (ahead_is ahead) clean l ∙ ap (judged_from left (c ∷ g.past)) after;
            told =
                g.told ∙ ap (λ (m : ℕ). history_from m g.past (drop (place g.past) file)) enough
                ∙ history_onward left g.past _ c rest (ahead_is ahead) l ∙ ap (history_from left (c ∷ g.past)) after;
            enough = omega (arith, g.enough);
            inside = inside;
            short = g.short;
          })

-- ---- what follows a command that stands at a place

pub after_command : (file : List ℕ) (at : ℕ) (c : Command) (rest : List ℕ) → front (drop at file) ≡ whole c rest
    → (rest ≡ drop (at + (1 + length c.params)) file) × (at + (1 + length c.params) ≤ length file)
after_command file at c rest e =
    let stands = (front_sound (drop at file) c rest e).1 in
    let size : suc (length c.params) ≡ 1 + length c.params = sym (one-add (length c.params)) in (
      sym (sym (drop-drop (1 + length c.params) at file) ∙ ap₂ drop (sym size) stands ∙ drop_at (form c) rest _ refl),
      omega (arith, front_length (drop at file) c rest e, length-drop at file),
    )

-- ---- a command that keeps the rules and defines no font

pub turn_to : {file : List ℕ} {page : ℕ} {v : Volume} {fonts again : List ℕ} (g : Going file page v fonts again) (c : Command) (rest : List ℕ)
    → front (drop v.at file) ≡ whole c rest → fault g.past c ≡ 0 → is_a PostPost c ≡ false
    → {w : Volume} → after_of page v (kind_of_command c) c.params ≡ w
    → table_after false v.stage (kind_of_command c) c.opcode c.params v.at fonts ≡ fonts
    → table_after true v.stage (kind_of_command c) c.opcode c.params v.at again ≡ again
    → Going file page w fonts again
turn_to {file} {page} {v} {fonts} {again} g c rest ahead clean goes {w} after early late =
    let follows = after_command file (place g.past) c rest (ahead_is g ahead) in
    let turn = turn_onward g c rest ahead clean goes follows.0 follows.1 in
    let noted = table_after true v.stage (kind_of_command c) c.opcode c.params v.at again in
    subst (Going file page w fonts) late
    (subst (λ (table : List ℕ). Going file page w table noted) early
    (subst (λ (next : Volume). Going file page next (table_after false v.stage (kind_of_command c) c.opcode c.params v.at fonts) noted) after turn))

-- ---- a run of plain commands

-- it never leads back
pub forward : {file : List ℕ} {from at : ℕ} → Passes file from at → from ≤ at
forward none_more = omega arith
forward (one_more c rest passed ahead t) = omega (arith, forward passed)

-- one more plain command
plain_turn : {file : List ℕ} {page : ℕ} {v : Volume} {fonts again : List ℕ} → Going file page v fonts again → v.stage ≡ OnPage → v.selected ≡ true
    → (c : Command) (rest : List ℕ) → front (drop v.at file) ≡ whole c rest → is_plain (kind_of_command c) ≡ true
    → Going file page (placed_at v (v.at + (1 + length c.params))) fonts again
plain_turn {page = page} {v = v} {fonts = fonts} {again = again} g on_page with-font c rest ahead t =
    let state = g.agrees.state in
    let stage_is : stage g.past ≡ OnPage = sym (ap (λ (w : Volume). w.stage) state) ∙ on_page in
    let font_is : selected g.past ≡ true = sym (ap (λ (w : Volume). w.selected) state) ∙ with-font in
    let deep : v.depth ≤ v.greatest = subst (λ (w : Volume). w.depth ≤ w.greatest) (sym state) (depth_reached g.past) in
    turn_to g c rest ahead (plain_fault g.past c stage_is font_is t) (plain_not_last g.past c stage_is font_is t) (plain_after page v c.params (kind_of_command c) t deep)
    (plain_table false v.stage (kind_of_command c) t c.opcode c.params v.at fonts) (plain_table true v.stage (kind_of_command c) t c.opcode c.params v.at again)

-- on a page, with a font selected, the code may go to any place that a run of plain commands leads to
pub passing : {file : List ℕ} {page : ℕ} {v : Volume} {fonts again : List ℕ} → Going file page v fonts again → v.stage ≡ OnPage → v.selected ≡ true
    → {at : ℕ} → Passes file v.at at → Going file page (placed_at v at) fonts again
passing g on_page with-font none_more = g
passing g on_page with-font (one_more c rest passed ahead t) = plain_turn (passing g on_page with-font passed) on_page with-font c rest ahead t
