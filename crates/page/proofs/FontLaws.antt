-- The font that a selection leaves: what its entry in the table of definitions leads to. Assumes nothing.
use mathlib.Core.Path.{◌≡◌, sym, ap, ◌∙◌, subst}
use mathlib.Core.Bool.{false}
use mathlib.Core.List.{List}
use Prim.Native.Nat.{ℕ, ◌-◌, ◌≤◌}
use native.Mathlib.Omega.{arith}
use lib.ListN.{take, drop}
use lib.IntN.{ℤ, nat_abs}
use Rattle.std.specs.declared.option.Option.TheVariants.{Some, None}
use Rattle.commands.specs.Commands.{Command}
use Rattle.names.specs.Names.{sought_name}
use Rattle.commands.specs.Parameters.{font_checksum, font_scale, font_name}
use Rattle.list.specs.declared.Part.{Part}
use Rattle.list.specs.Past.{body, Definition, definition_of}
use Rattle.list.specs.Steps.{place_in, SayingAt}
use Rattle.list.proofs.FontTables.{place_of, none_there, told_any, Leads, leads_any}
use Rattle.list.proofs.Sayings.{part_says}
use Rattle.state.specs.Registers.{unselected}
use Rattle.turns.specs.Placing.{font_by}
use Rattle.turns.specs.Steps.{Known}
use Rattle.page.specs.Steps.{InScale, Told}

-- no font is one that may be left
pub unselected_known : Known unselected
unselected_known = record { checksum_small = omega arith; scale_small = omega arith; name_in = (omega arith, omega arith) }

module _ {file fonts : List ℕ} {past : List Command} (told : Told file fonts past) (number : ℤ) where
  place_is : place_in fonts number ≡ place_of (definition_of false number past)
  place_is = told_any fonts number told.tells told.lawfully

  -- a number that the table has no place for leaves no font
  pub no_definition : place_in fonts number ≡ None → unselected ≡ font_by number (definition_of false number past)
  no_definition e = sym (ap (font_by number) (none_there (definition_of false number past) (sym place_is ∙ e)))

  -- a place leads to the definition
  pub definition : {at : ℕ} → place_in fonts number ≡ Some at → Leads file past number at
  definition e = leads_any told.standing number told.lawfully (sym place_is ∙ e)

  -- and the definition to the font
  module _ {at : ℕ} (leads : Leads file past number at) (r : Part) (saying : SayingAt file at (Some r)) where
    said_is : take (r.end - r.start) (drop r.start file) ≡ body leads.c
    said_is =
        ap (λ (part : Part). take (part.end - part.start) (drop part.start file)) (saying.2 leads.c leads.rest leads.ahead leads.kind_is)
        ∙ part_says file at leads.ahead leads.kind_is

    pub font_is :
        let said = take (r.end - r.start) (drop r.start file) in
        record { number = nat_abs number; checksum = font_checksum said; scale = font_scale said; name = sought_name (font_name said) } ≡ font_by number (definition_of false number past)
    font_is =
        ap (λ (said : List ℕ). record { number = nat_abs number; checksum = font_checksum said; scale = font_scale said; name = sought_name (font_name said) }) said_is
        ∙ ap (font_by number) (sym leads.defined)

    pub scale_in : font_scale (take (r.end - r.start) (drop r.start file)) ≤ 134217727
    scale_in = subst (λ (said : List ℕ). font_scale said ≤ 134217727) (sym said_is) (subst (λ (d : Definition). InScale d) leads.defined (told.scales number))
