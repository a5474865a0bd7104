-- What a font table tells of the commands so far, and when a definition keeps the rules. Assumes nothing.
use mathlib.Core.Path.{◌≡◌, refl, ap, sym, subst, ◌∙◌}
use mathlib.Core.Bool.{Bool, true, false, cond, not, ◌&&◌, and-eq-true_iff}
use mathlib.Core.List.{List, [], ◌∷◌}
use Prim.Native.Nat.{ℕ, ◌+◌, ◌<◌}
use native.Mathlib.Omega.{arith}
use lib.Dec.{T, eqb, ltb}
use lib.ListN.{get_or, drop}
use lib.IntN.{ℤ, pos, negsuc, nat_abs}
use native.Mathlib.Numerals.{add-one}
use lib.Signed.{non_neg}
use borrow.Author.Tests.{ne_eqb, leb-true, le-leb}
use Rattle.std.specs.Option.{is_some}
use Rattle.std.specs.declared.option.Option.{Option}
use Rattle.std.specs.declared.option.Option.TheVariants.{None, Some}
use Rattle.numbers.specs.Signs.{same_number}
use Rattle.numbers.specs.Sizes.{lawful_size}
use Rattle.commands.specs.declared.Kind.TheVariants.{Define}
use Rattle.commands.specs.Kinds.{kind_of, is}
use Rattle.commands.specs.Commands.{Command, kind_of_command, whole, front, place}
use Rattle.commands.specs.Parameters.{defined_font, definition, font_scale, font_design_size}
use Rattle.state.specs.Limits.{most_fonts}
use Rattle.list.specs.declared.Stage.{Stage}
use Rattle.list.specs.Past.{stage, is_after_post, defines, font_number, Definition, none, stands, definition_of, is_defined, font_count}
use Rattle.list.specs.Rules.{lawful_font, says, lawful_definition}
use Rattle.list.specs.Steps.{command, entry_of, entry_place, place_in, Tells, StandsIn, AllStanding, Lawfully, SayingIs}
use Rattle.list.proofs.Arms.{is_kind}

-- ---- the numbers of a table's entries

-- a lawful number is that of an entry
pub lawful_in : (number : ℤ) → lawful_font number ≡ true → T (non_neg number) × (nat_abs number < 256) × (pos (nat_abs number) ≡ number)
lawful_in (pos n) e = (tt, omega (arith, leb-true n 255 (rw (le-leb 0 n (omega arith)) at e)), refl)
lawful_in (negsuc n) e = let z : ◌≡◌ {A = ℕ} 0 1 = cc in absurd (omega arith)

-- ---- definitions are of their kind

pub defines_kind : (after : Bool) (at_stage : Stage) (opcode : ℕ) → defines after at_stage (kind_of opcode) ≡ true → kind_of opcode ≡ Define
defines_kind after at_stage opcode e =
    is_kind (kind_of opcode) Define ((and-eq-true_iff (is (kind_of opcode) Define) (cond after (is_after_post at_stage) (not (is_after_post at_stage)))).0 e).0

pub definition_kind : (after : Bool) (number : ℤ) (past : List Command) {at : ℕ} {c : Command} → definition_of after number past ≡ stands at c → kind_of_command c ≡ Define
definition_kind after number [] e = let z : ◌≡◌ {A = ℕ} 0 1 = cc in absurd (omega arith)
definition_kind after number (newest ∷ past) {at} {c} e =
    go (defines after (stage past) (kind_of_command newest)) (same_number (font_number newest) number) refl e (definition_kind after number past)
  where
    go : (defining same : Bool) → defines after (stage past) (kind_of_command newest) ≡ defining
        → cond (defining && same) (stands (place past) newest) (definition_of after number past) ≡ stands at c
        → (definition_of after number past ≡ stands at c → kind_of_command c ≡ Define) → kind_of_command c ≡ Define
    go true true d e before = let found : newest ≡ c = cc in rw (← found) (defines_kind after (stage past) newest.opcode d)
    go true false d e before = before e
    go false same d e before = before e

-- ---- what a table tells

-- a font has an entry other than 0 just where it is defined
entry_defined : (d : Definition) → not (eqb (entry_of d) 0) ≡ is_defined d
entry_defined none = refl
entry_defined (stands at c) = rw (ne_eqb (at + 1) 0 (λ e. absurd (omega arith)))

module _ {after : Bool} {table : List ℕ} {past : List Command} (tells : Tells after table past) (number : ℤ) (lawful : lawful_font number ≡ true) where
  pub told_entry : get_or table (nat_abs number) 0 ≡ entry_of (definition_of after number past)
  told_entry =
      let (sign, small, same) = lawful_in number lawful in
      tells.entry (nat_abs number) small ∙ ap (λ (n : ℤ). entry_of (definition_of after n past)) same

  pub told_defined : not (eqb (get_or table (nat_abs number) 0) 0) ≡ is_defined (definition_of after number past)
  told_defined = rw told_entry (entry_defined (definition_of after number past))

-- ---- the place that a table tells of a number

-- where a definition stands
abbrev pub place_of : Definition → Option ℕ
place_of none = None
place_of (stands at c) = Some at

entry_tells : (d : Definition) → entry_place (entry_of d) ≡ place_of d
entry_tells none = refl
entry_tells (stands at c) = rw add-one refl

pub some_defined : (d : Definition) → is_some (place_of d) ≡ is_defined d
some_defined none = refl
some_defined (stands at c) = refl

pub none_there : (d : Definition) → place_of d ≡ None → d ≡ none
none_there none e = refl
none_there (stands at c) e = let z : ◌≡◌ {A = ℕ} 0 1 = cc in absurd (omega arith)

module _ (table : List ℕ) (number : ℤ) where
  told_as : (lawful : Bool) → lawful_font number ≡ lawful → cond lawful (entry_place (get_or table (nat_abs number) 0)) None ≡ place_in table number
  told_as lawful e = ap (λ (t : Bool). cond t (entry_place (get_or table (nat_abs number) 0)) None) (sym e)

  pub told_place : {after : Bool} {past : List Command} → Tells after table past → lawful_font number ≡ true → place_in table number ≡ place_of (definition_of after number past)
  told_place tells lawful = sym (told_as true lawful) ∙ ap entry_place (told_entry tells number lawful) ∙ entry_tells _

  -- before post, of any number
  pub told_any : {past : List Command} → Tells false table past → Lawfully past → place_in table number ≡ place_of (definition_of false number past)
  told_any {past} tells lawfully = by (lawful_font number) refl
    where
      by : (lawful : Bool) → lawful_font number ≡ lawful → place_in table number ≡ place_of (definition_of false number past)
      by true e = told_place tells e
      by false e = sym (told_as false e) ∙ sym (ap place_of (lawfully number e))

-- the definition of a number stands in the file
pub record Leads (file : List ℕ) (past : List Command) (number : ℤ) (at : ℕ) : Type 0 where
  pub c : Command
  pub rest : List ℕ
  pub defined : definition_of false number past ≡ stands at c
  pub ahead : front (drop at file) ≡ whole c rest
  pub kind_is : kind_of_command c ≡ Define

module _ {file : List ℕ} {past : List Command} (standing : AllStanding file past) (number : ℤ) {at : ℕ} where
  pub leads : lawful_font number ≡ true → place_of (definition_of false number past) ≡ Some at → Leads file past number at
  leads lawful told = by (definition_of false number past) refl told
    where
      by : (d : Definition) → definition_of false number past ≡ d → place_of d ≡ Some at → Leads file past number at
      by none e q = let z : ◌≡◌ {A = ℕ} 0 1 = cc in absurd (omega arith)
      by (stands from c) e q =
          let (rest, ahead) = subst (StandsIn file) (ap (λ (n : ℤ). definition_of false n past) (lawful_in number lawful).2 ∙ e) (standing (nat_abs number)) in
          let there : from ≡ at = cc in
          record { c = c; rest = rest; defined = e ∙ ap (λ (n : ℕ). stands n c) there; ahead = ap (λ (n : ℕ). front (drop n file)) (sym there) ∙ ahead; kind_is = definition_kind false number past e }

  pub leads_any : Lawfully past → place_of (definition_of false number past) ≡ Some at → Leads file past number at
  leads_any lawfully told = by (lawful_font number) refl
    where
      by : (lawful : Bool) → lawful_font number ≡ lawful → Leads file past number at
      by true e = leads e told
      by false e = let z : None ≡ Some at = sym (ap place_of (lawfully number e)) ∙ told in let y : ◌≡◌ {A = ℕ} 0 1 = cc in absurd (omega arith)

-- what is read there is what the definition says
pub told_says : {file : List ℕ} {past : List Command} {number : ℤ} {at : ℕ} → Leads file past number at → (said : List ℕ) (r : Bool) → SayingIs file at said r
    → r ≡ says (definition_of false number past) said
told_says l said r saying = saying l.c l.rest l.ahead l.kind_is ∙ ap (λ (d : Definition). says d said) (sym l.defined)

-- ---- a definition against the rules, test by test

-- a definition of lawful number and sizes, after the commands before
abbrev pub in_turn : List Command → ℤ → List ℕ → Bool
in_turn past number said =
    cond (is_after_post (stage past))
    (not (is_defined (definition_of true number past)) && says (definition_of false number past) said)
    (not (is_defined (definition_of false number past)) && ltb (font_count false past) most_fonts)

module _ (past : List Command) (opcode : ℕ) (params : List ℕ) where
  module _ (number-lawful : lawful_font (defined_font opcode params) ≡ true) where
    pub wrong_scale_lem : lawful_size (font_scale (definition opcode params)) ≡ false → false ≡ lawful_definition past (command opcode params)
    wrong_scale_lem e = rw (number-lawful, e)

    module _ (scale-lawful : lawful_size (font_scale (definition opcode params)) ≡ true) where
      pub wrong_design_size : lawful_size (font_design_size (definition opcode params)) ≡ false → false ≡ lawful_definition past (command opcode params)
      wrong_design_size e = rw (number-lawful, scale-lawful, e)

      pub turn_decides : lawful_size (font_design_size (definition opcode params)) ≡ true
          → in_turn past (defined_font opcode params) (definition opcode params) ≡ lawful_definition past (command opcode params)
      turn_decides e = rw (number-lawful, scale-lawful, e)

module _ (past : List Command) (number : ℤ) (said : List ℕ) where
  module _ (late : is_after_post (stage past) ≡ true) where
    pub once_after : is_defined (definition_of true number past) ≡ false → says (definition_of false number past) said ≡ in_turn past number said
    once_after e = rw (late, e)

  module _ (early : is_after_post (stage past) ≡ false) where
    pub once_before : is_defined (definition_of false number past) ≡ false → ltb (font_count false past) most_fonts ≡ in_turn past number said
    once_before e = rw (early, e)
