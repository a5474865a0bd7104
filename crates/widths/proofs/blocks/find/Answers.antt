-- `widths::blocks::find` meets its contract: a record of the own name, or else one for any name, each character for itself. Assumes nothing.
use mathlib.Core.Path.{ap, ◌∙◌}
use Rattle.widths.specs.LookUp.{LookUp, walk, or_else}
use Rattle.widths.proofs.BlockSearch.{empty_misses}
use Rattle.widths.proofs.blocks.find.Goals as goal

pub returns-then-own : goal.returns-then-own
returns-then-own c = (
  λ checksum scale name own_is any_is.
      let widths = c.args.widths in
      c.find_code.ensures.0 checksum scale 0 any_is
      ∙ ap (λ (l : LookUp). or_else l (walk widths.records widths.bytes.now checksum scale 0 c.args.byte))
      (empty_misses widths.bytes.now widths.below widths.records widths.right checksum scale name c.args.own own_is c.args.byte c.requires.2 c.if-own.true),
  c.find_code.ensures.1,
)
