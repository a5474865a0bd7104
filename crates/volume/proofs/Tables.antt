-- The font tables after one more command tell the definitions of the list with that command. Assumes nothing.
use mathlib.Core.Path.{◌≡◌, refl, sym, ap, ◌∙◌, subst}
use mathlib.Core.Bool.{Bool, true, false, cond, not, ◌&&◌, and-eq-true_iff, false≢true}
use mathlib.Core.List.{List, ◌∷◌}
use Prim.Native.Nat.{ℕ, ◌+◌, ◌<◌}
use native.Mathlib.Omega.{arith}
use lib.Dec.{eqb}
use lib.ListN.{length, get_or, drop, set, length-set}
use lib.Seq.{get_or-set_same, get_or-set_other}
use lib.IntN.{ℤ, pos, nat_abs}
use borrow.Author.Tests.{eqb-true, eqb-false}
use Rattle.numbers.specs.Signs.{same_number}
use Rattle.numbers.proofs.Signed.{same_number_refl, same_number_true}
use Rattle.commands.specs.declared.Kind.TheVariants.{Define}
use Rattle.commands.specs.Kinds.{is}
use Rattle.commands.specs.Commands.{Command, kind_of_command, whole, front, place}
use Rattle.list.specs.Past.{stage, is_after_post, font_number, defines, Definition, none, stands, definition_of}
use Rattle.list.specs.Rules.{lawful_font}
use Rattle.list.specs.Steps.{entry_of, table_after, Tells, StandsIn, AllStanding, Lawfully}
use Rattle.list.proofs.FontTables.{lawful_in}

-- two natural numbers that differ are not the same number
differ : (m n : ℕ) → (m ≡ n → ⊥) → same_number (pos m) (pos n) ≡ false
differ m n h = by (same_number (pos m) (pos n)) refl
  where
    by : (t : Bool) → same_number (pos m) (pos n) ≡ t → t ≡ false
    by true e = absurd (h (ap nat_abs (same_number_true (pos m) (pos n) e)))
    by false e = refl

-- one more command, whose number is lawful if it is a definition
module _ (past : List Command) (c : Command) (lawful : is (kind_of_command c) Define ≡ true → lawful_font (font_number c) ≡ true) where
  -- what `defines` says of the kind
  defining : (after : Bool) → defines after (stage past) (kind_of_command c) ≡ true → lawful_font (font_number c) ≡ true
  defining after e = lawful ((and-eq-true_iff (is (kind_of_command c) Define) (cond after (is_after_post (stage past)) (not (is_after_post (stage past))))).0 e).0

  module _ (after : Bool) (table : List ℕ) (tells : Tells after table past) where
    abbrev noted : Bool → List ℕ
    noted t = cond t (set table (nat_abs (font_number c)) (place past + 1)) table

    abbrev found : Bool → ℕ → Definition
    found t n = cond (t && same_number (font_number c) (pos n)) (stands (place past) c) (definition_of after (pos n) past)

    same_place : (n : ℕ) → n < 256 → lawful_font (font_number c) ≡ true → nat_abs (font_number c) ≡ n
        → get_or (set table (nat_abs (font_number c)) (place past + 1)) n 0 ≡ entry_of (found true n)
    same_place n h l e =
        let here : font_number c ≡ pos n = sym (lawful_in (font_number c) l).2 ∙ ap pos e in
        let test : same_number (font_number c) (pos n) ≡ true = subst (λ (z : ℤ). same_number z (pos n) ≡ true) (sym here) (same_number_refl (pos n)) in
        subst (λ (m : ℕ). get_or (set table m (place past + 1)) n 0 ≡ place past + 1) (sym e) (get_or-set_same table n (place past + 1) 0 (omega (arith, tells.full)))
        ∙ sym (ap (λ (t : Bool). entry_of (cond t (stands (place past) c) (definition_of after (pos n) past))) test)

    other_place : (n : ℕ) → n < 256 → lawful_font (font_number c) ≡ true → (nat_abs (font_number c) ≡ n → ⊥)
        → get_or (set table (nat_abs (font_number c)) (place past + 1)) n 0 ≡ entry_of (found true n)
    other_place n h l ne =
        let there = sym (lawful_in (font_number c) l).2 in
        let test : same_number (font_number c) (pos n) ≡ false = subst (λ (z : ℤ). same_number z (pos n) ≡ false) (sym there) (differ (nat_abs (font_number c)) n ne) in
        get_or-set_other table (nat_abs (font_number c)) n (place past + 1) 0 (λ e. ne (sym e))
        ∙ tells.entry n h
        ∙ sym (ap (λ (t : Bool). entry_of (cond t (stands (place past) c) (definition_of after (pos n) past))) test)

    entry_by : (t : Bool) → defines after (stage past) (kind_of_command c) ≡ t → (n : ℕ) → n < 256 → get_or (noted t) n 0 ≡ entry_of (found t n)
    entry_by true e n h = by (eqb (nat_abs (font_number c)) n) refl
      where
        by : (t : Bool) → eqb (nat_abs (font_number c)) n ≡ t → get_or (noted true) n 0 ≡ entry_of (found true n)
        by true q = same_place n h (defining after e) (eqb-true (nat_abs (font_number c)) n q)
        by false q = other_place n h (defining after e) (eqb-false (nat_abs (font_number c)) n q)
    entry_by false e n h = tells.entry n h

    full_by : (t : Bool) → length (noted t) ≡ 256
    full_by true = length-set table (nat_abs (font_number c)) (place past + 1) ∙ tells.full
    full_by false = tells.full

    pub tells_after : Tells after (table_after after (stage past) (kind_of_command c) c.opcode c.params (place past) table) (c ∷ past)
    tells_after =
        record {
          full = full_by (defines after (stage past) (kind_of_command c));
          entry = entry_by (defines after (stage past) (kind_of_command c)) refl;
        }

  -- what was defined stands in the file
  pub standing_after : (file rest : List ℕ) → front (drop (place past) file) ≡ whole c rest → AllStanding file past → AllStanding file (c ∷ past)
  standing_after file rest e all n = by (defines false (stage past) (kind_of_command c) && same_number (font_number c) (pos n))
    where
      by : (t : Bool) → StandsIn file (cond t (stands (place past) c) (definition_of false (pos n) past))
      by true = (rest, e)
      by false = all n

  -- only lawful fonts are defined
  pub lawfully_after : Lawfully past → Lawfully (c ∷ past)
  lawfully_after all number h = by (defines false (stage past) (kind_of_command c)) refl (same_number (font_number c) number) refl
    where
      by : (t : Bool) → defines false (stage past) (kind_of_command c) ≡ t → (s : Bool) → same_number (font_number c) number ≡ s
          → cond (t && s) (stands (place past) c) (definition_of false number past) ≡ none
      by true e true q =
          absurd (false≢true (sym h ∙ subst (λ (z : ℤ). lawful_font z ≡ true) (same_number_true (font_number c) number q) (defining false e)))
      by true e false q = all number h
      by false e s q = all number h
