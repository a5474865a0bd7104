-- `volume::plain::pass_plain` meets its contract. The loop's invariant: from the place given to the place reached stand whole plain commands.
-- The measure is what is left of the file. Assumes nothing.
use mathlib.Core.Path.{sym, ◌∙◌}
use native.Mathlib.Omega.{arith}
use Rattle.volume.specs.Steps.{none_more}
use Rattle.volume.proofs.RunLaws.{plain_below, pass_one, passes_on}
use Rattle.volume.proofs.Going.{forward}
use Rattle.volume.proofs.plain.pass_plain.Goals as goal

pub loop-place-init : goal.loop-place-init
loop-place-init c = none_more

pub returns-then-file-place : goal.returns-then-file-place
returns-then-file-place c = passes_on c.loop-place.invariant c.pass_characters-place.ensures

pub returns-then-not-is_plain : goal.returns-then-not-is_plain
returns-then-not-is_plain c = passes_on c.loop-place.invariant c.pass_characters-place.ensures

pub fixed-length-requires : goal.fixed-length-requires
fixed-length-requires c = omega (arith, plain_below _ (sym c.is_plain.ensures ∙ c.if-not-is_plain.false))

pub returns-then-file-place-2 : goal.returns-then-file-place-2
returns-then-file-place-2 c = passes_on c.loop-place.invariant c.pass_characters-place.ensures

pub loop-place-smaller : goal.loop-place-smaller
loop-place-smaller c = omega (arith, forward c.pass_characters-place.ensures)

pub loop-place-preserved : goal.loop-place-preserved
loop-place-preserved c =
    pass_one (passes_on c.loop-place.invariant c.pass_characters-place.ensures) (omega arith) (sym c.is_plain.ensures ∙ c.if-not-is_plain.false) _ c.fixed-length.ensures (omega arith)
