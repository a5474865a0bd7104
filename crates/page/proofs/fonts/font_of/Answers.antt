-- `page::fonts::font_of` meets its contract: the place that the table tells leads to the definition, and the definition to the font. Assumes nothing.
use mathlib.Core.Path.{◌≡◌, sym, ap, ap₂, ◌∙◌, subst}
use mathlib.Core.List.{List}
use Prim.Native.Nat.{ℕ, ◌-◌, ◌≤◌}
use lib.ListN.{take, drop}
use lib.IntN.{ℤ, nat_abs}
use mir.Syntax.{w64}
use mir.Val.{SFits, to_z, of_z}
use mir.Facts.{to_z-of_z}
use Rattle.std.specs.declared.option.Option.{Option}
use Rattle.std.specs.declared.option.Option.TheVariants.{Some}
use Rattle.names.specs.declared.Name.{Name}
use Rattle.names.specs.Names.{sought_name}
use Rattle.commands.specs.Parameters.{font_name}
use Rattle.list.specs.Steps.{place_in, SayingAt}
use Rattle.page.proofs.FontLaws.{definition, font_is, scale_in}
use Rattle.page.proofs.fonts.font_of.Goals as goal

-- the place that was found is what the table tells of the number
placed : {number : ℤ} (fonts : List ℕ) {place : Option ℕ} {at : ℕ} → SFits w64 number → place ≡ place_in fonts (to_z w64 (of_z w64 number)) → place ≡ Some at → place_in fonts number ≡ Some at
placed fonts fits told is = sym (told ∙ ap (place_in fonts) (to_z-of_z {w = w64} fits)) ∙ is

pub returns-in_default-saying_at : goal.returns-in_default-saying_at
returns-in_default-saying_at c past told =
    let l = definition told c.args.number (placed c.args.fonts.now c.ranges.number c.place_of.ensures c.in-Some.is) in
    absurd (subst (SayingAt c.args.file.now c.in-Some.place) c.in_default-saying_at.is c.saying_at.ensures l.c l.rest l.ahead l.kind_is)

pub returns : goal.returns
returns c past told =
    let a = c.args in
    let number = a.number in
    let part = c.in-Some-saying_at.part in
    let saying = subst (SayingAt a.file.now c.in-Some.place) c.in-Some-saying_at.is c.saying_at.ensures in
    let l = definition told number (placed a.fonts.now c.ranges.number c.place_of.ensures c.in-Some.is) in
    let checksum = c.unsigned_in in
    let scale = c.unsigned_in-2 in
    let name = c.name_in in
    let said = take (part.end - part.start) (drop part.start a.file.now) in (
      ap (λ (n : ℕ). record { number = n; checksum = checksum.result; scale = scale.result; name = name.result }) (c.unsigned_abs.ensures.value ∙ ap nat_abs (to_z-of_z {w = w64} c.ranges.number))
          ∙ ap (λ (called : Name). record { number = nat_abs number; checksum = checksum.result; scale = scale.result; name = called }) name.ensures.0
          ∙ ap₂ (λ (sum size : ℕ). record { number = nat_abs number; checksum = sum; scale = size; name = sought_name (font_name said) }) checksum.ensures.value scale.ensures.value
          ∙ font_is told number l part saying,
      record { checksum_small = checksum.ensures.upper_bound; scale_small = subst (λ (n : ℕ). n ≤ 134217727) (sym scale.ensures.value) (scale_in told number l part saying); name_in = name.ensures.1 },
    )
