-- `volume::naming::named_by` meets its contract: the place that the table tells leads to the definition, and the definition to the name. Assumes nothing.
use mathlib.Core.Path.{◌≡◌, sym, ap, ◌∙◌, subst}
use mir.Syntax.{w64}
use mir.Facts.{to_z-of_z}
use Rattle.std.specs.declared.option.Option.TheVariants.{Some}
use Rattle.list.specs.Steps.{place_in, SayingAt}
use Rattle.volume.proofs.NameLaws.{said_there, name_is}
use Rattle.volume.proofs.naming.named_by.Goals as goal

pub returns-in_err-said : goal.returns-in_err-said
returns-in_err-said c past tells standing lawfully =
    let a = c.args in
    let place_is : place_in a.fonts.now a.number ≡ Some c.in_ok-at.at =
    ap (place_in a.fonts.now) (sym (to_z-of_z {w = w64} c.ranges.number)) ∙ sym c.place_of.ensures ∙ c.in_ok-at.ensures.ok_part in
    absurd (said_there a.file.now a.fonts.now a.number past tells standing lawfully place_is (subst (SayingAt a.file.now c.in_ok-at.at) c.in_err-said.ensures.ok_part c.saying_at.ensures))

pub returns : goal.returns
returns c past tells standing lawfully =
    let a = c.args in
    let place_is : place_in a.fonts.now a.number ≡ Some c.in_ok-at.at =
    ap (place_in a.fonts.now) (sym (to_z-of_z {w = w64} c.ranges.number)) ∙ sym c.place_of.ensures ∙ c.in_ok-at.ensures.ok_part in
    let saying = subst (SayingAt a.file.now c.in_ok-at.at) c.in_ok-said.ensures.ok_part c.saying_at.ensures in
    (name_is a.file.now a.fonts.now a.number past tells standing lawfully place_is c.in_ok-said.said saying, (saying.0, saying.1))
