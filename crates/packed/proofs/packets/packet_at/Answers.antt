-- `packed::packets::packet_at` meets its contract: each field stands where the form has it. Assumes nothing.
use mathlib.Core.Path.{◌≡◌, refl, sym, ap, subst, ◌∙◌}
use native.Mathlib.Omega.{arith}
use borrow.Author.Rules.{sfits_of}
use borrow.Author.Tests.{eq-eqb, ne_eqb}
use lib.IntN.{pos}
use mir.Syntax.{w32, w64}
use mir.Val.{to_z, of_z}
use mir.ValLaws.{to_z_pos}
use mir.Facts.{to_z-of_z}
use Rattle.numbers.proofs.Bytes.{power_le}
use Rattle.packed.specs.Packets.{nearest}
use Rattle.packed.proofs.Forms.{Sized, form_sized}
use Rattle.packed.proofs.Fields.{code_read, width_read, dm_read, dx_read, packet_is}
use Rattle.packed.proofs.packets.packet_at.Goals as goal

pub returns-then-flag-eq7 : goal.returns-then-flag-eq7
returns-then-flag-eq7 c =
    let a = c.args in
    let pk = a.pk.now in
    let f = c.form_of-form in
    let dx = c.signed_at-dx in
    let far = c.nearest_pixel in
    let back : to_z w32 (of_z w32 far.result) ≡ far.result = to_z-of_z {w = w32} (sfits_of far.type_inv) in
    packet_is
    a.flag
    _
    _
    _
    _
    (c.unsigned_at-code.ensures.value ∙ code_read pk a.from a.flag f.result f.ensures _ refl)
    (c.unsigned_at-width.ensures.value ∙ width_read pk a.from a.flag f.result f.ensures _ (omega arith))
    (back
    ∙ far.ensures.0
    ∙ ap nearest (to_z-of_z {w = w64} (sfits_of dx.type_inv) ∙ dx.ensures.value)
    ∙ dx_read pk a.from a.flag f.result f.ensures _ (omega arith) (eq-eqb _ 7 c.if-flag-eq7.true))

pub returns : goal.returns
returns c =
    let a = c.args in
    let pk = a.pk.now in
    let f = c.form_of-form in
    let s = subst (Sized a.flag) (sym f.ensures) (form_sized a.flag) in
    let dm = c.unsigned_at-dm in
    packet_is
    a.flag
    _
    _
    _
    _
    (c.unsigned_at-code.ensures.value ∙ code_read pk a.from a.flag f.result f.ensures _ refl)
    (c.unsigned_at-width.ensures.value ∙ width_read pk a.from a.flag f.result f.ensures _ (omega arith))
    (to_z_pos w32 dm.result (omega (arith, dm.ensures.upper_bound, power_le f.result.escapement 2 (s.short_two (ne_eqb _ 7 c.if-flag-eq7.false))))
    ∙ ap pos dm.ensures.value
    ∙ dm_read pk a.from a.flag f.result f.ensures _ (omega arith) (ne_eqb _ 7 c.if-flag-eq7.false))
