-- `volume::plain::pass_on` meets its contract. The loop's invariant: the scan may go on from what was reached. The measure is what is left of the file.
-- Assumes nothing.
use native.Mathlib.Omega.{arith}
use lib.ListN.{get_or}
use mathlib.Core.Path.{◌≡◌, sym, ◌∙◌}
use mir.Syntax.{w64}
use mir.Val.{to_z, of_z}
use Rattle.std.proofs.Common.{rules}
use Rattle.volume.proofs.Going.{forward}
use Rattle.volume.proofs.ShortLaws.{pass_shallow, onward_plain, onward_short}
use Rattle.volume.proofs.plain.pass_on.Goals as goal

pub returns-clause-onward : goal.returns-clause-onward
returns-clause-onward c =
    let bop_is : to_z w64 (of_z w64 c.args.v.bop) ≡ c.args.v.bop = search rules in
    rw bop_is (onward_plain c.requires.0 c.loop-place.invariant.0 c.requires.1 c.pass_plain-place.ensures)

pub returns-clause-at_le_at : goal.returns-clause-at_le_at
returns-clause-at_le_at c = omega (arith, c.loop-place.invariant.1, forward c.pass_plain-place.ensures)

pub next_depth-depth-requires : goal.next_depth-depth-requires
next_depth-depth-requires c = λ pushes.
    let a = c.args in
    let may = sym c.may_pass.ensures ∙ c.if-not-may_pass.false in
    omega (arith, pass_shallow a.fonts.now (get_or a.file.now c.pass_plain-place.result 0) c.loop-place.depth may (sym c.from.ensures ∙ pushes))

pub loop-place-smaller : goal.loop-place-smaller
loop-place-smaller c = omega (arith, forward c.pass_plain-place.ensures)

pub loop-place-preserved : goal.loop-place-preserved
loop-place-preserved c =
    let onward = onward_plain c.requires.0 c.loop-place.invariant.0 c.requires.1 c.pass_plain-place.ensures in
    let may = sym c.may_pass.ensures ∙ c.if-not-may_pass.false in
    (onward_short c.requires.0 onward (omega arith) c.from.ensures c.next_depth-depth.ensures c.max-greatest.ensures c.requires.1 may, omega (arith, c.loop-place.invariant.1, forward c.pass_plain-place.ensures))
