-- `volume::plain::pass_depths` meets its contract. The loop's invariant: the scan may go on from what was reached. The measure is what is left of the file.
-- Assumes nothing.
use mathlib.Core.Path.{sym, ◌∙◌}
use native.Mathlib.Omega.{arith}
use lib.ListN.{get_or}
use Rattle.volume.proofs.ShortLaws.{push_shallow, onward_depth}
use Rattle.volume.proofs.plain.pass_depths.Goals as goal

pub next_depth-depth-requires : goal.next_depth-depth-requires
next_depth-depth-requires c = λ pushes.
    let l = c.loop-at in
    let may = sym c.may_push_or_pop.ensures ∙ c.if-not-may_push_or_pop.false in
    omega (arith, push_shallow (get_or c.args.file.now l.at 0) l.depth may (sym c.from.ensures ∙ pushes))

pub loop-at-preserved : goal.loop-at-preserved
loop-at-preserved c =
    let l = c.loop-at in
    let may = sym c.may_push_or_pop.ensures ∙ c.if-not-may_push_or_pop.false in
    (λ fonts. onward_depth c.requires (l.invariant.0 fonts) (omega arith) c.from.ensures c.next_depth-depth.ensures c.max-greatest.ensures may, omega (arith, l.invariant.1))
