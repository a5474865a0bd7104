-- What the rules ask of a font definition, taken apart. Assumes nothing.
use Prim.Native.Nat.{◌<◌}
use mathlib.Core.Path.{◌≡◌, refl, sym, ◌∙◌}
use mathlib.Core.Bool.{Bool, true, false, not, ◌||◌, true≢false, and-eq-true_iff, or-false}
use mathlib.Core.List.{List}
use borrow.Author.Tests.{not-false, ltb-true}
use Rattle.commands.specs.declared.Kind.TheVariants.{Define}
use Rattle.commands.specs.Commands.{Command, kind_of_command}
use Rattle.commands.specs.Parameters.{font_scale, font_design_size}
use Rattle.list.specs.Past.{stage, is_after_post, font_number, body, Definition, none, stands, definition_of, is_defined, font_count}
use Rattle.list.specs.Rules.{lawful_font, says, lawful_definition, Allowed}
use Rattle.numbers.specs.Sizes.{lawful_size}

-- what no rule refuses holds
pub holds : (t : Bool) → (not t || false) ≡ false → t ≡ true
holds t e = not-false t (sym (or-false (not t)) ∙ e)

-- a font without a definition has none
not_there : (d : Definition) → not (is_defined d) ≡ true → d ≡ none
not_there none e = refl
not_there (stands at d) e = absurd (true≢false (sym e))

-- what the rules ask of a definition
pub record Right (past : List Command) (c : Command) : Type 0 where
  pub number : lawful_font (font_number c) ≡ true
  pub scale : lawful_size (font_scale (body c)) ≡ true
  pub size : lawful_size (font_design_size (body c)) ≡ true
  pub late : is_after_post (stage past) ≡ true → (definition_of true (font_number c) past ≡ none) × (says (definition_of false (font_number c) past) (body c) ≡ true)
  pub early : is_after_post (stage past) ≡ false → (definition_of false (font_number c) past ≡ none) × (font_count false past < 64)

-- it keeps them
pub right : {past : List Command} {c : Command} → Allowed past c → kind_of_command c ≡ Define → Right past c
right {past} {c} allowed k =
    let rules : lawful_definition past c ≡ true = holds _ (rw k at allowed.definition) in
    let from-number = (and-eq-true_iff (lawful_font (font_number c)) _).0 rules in
    let from-scale = (and-eq-true_iff (lawful_size (font_scale (body c))) _).0 from-number.1 in
    let from-size = (and-eq-true_iff (lawful_size (font_design_size (body c))) _).0 from-scale.1 in
    let after : is_after_post (stage past) ≡ true → _ = λ t. (and-eq-true_iff (not (is_defined (definition_of true (font_number c) past))) _).0 (rw t at from-size.1) in
    let before : is_after_post (stage past) ≡ false → _ = λ t. (and-eq-true_iff (not (is_defined (definition_of false (font_number c) past))) _).0 (rw t at from-size.1) in
    record {
      number = from-number.0;
      scale = from-scale.0;
      size = from-size.0;
      late = λ t. (not_there _ (after t).0, (after t).1);
      early = λ t. (not_there _ (before t).0, ltb-true (font_count false past) 64 (before t).1);
    }
