-- `widths::blocks::find_code` meets its contract: a record of the block with the code is what the walk finds, and where the search ends at none there is none. Assumes nothing.
use mathlib.Core.Path.{sym, ◌∙◌}
use native.Mathlib.Omega.{arith}
use Rattle.widths.proofs.BlockSearch.{code_hits, code_misses, has, has_not}
use Rattle.widths.proofs.blocks.find_code.Goals as goal

pub returns-then-has_code : goal.returns-then-has_code
returns-then-has_code c =
    let h = has c.args.widths.bytes.now c.args.block c.args.byte c.args.hint (sym c.has_code.ensures ∙ c.if-has_code.true) in (
      λ checksum scale name is.
          code_hits c.args.widths.bytes.now c.args.widths.below c.args.widths.records c.args.widths.right checksum scale name c.args.block is c.args.hint h.from h.to c.args.byte c.requires.1 h.code_is,
      omega (arith, h.to, c.requires.0.1),
    )

pub returns-then-has_code-2 : goal.returns-then-has_code-2
returns-then-has_code-2 c =
    let index = c.first_code-index.result in
    let h = has c.args.widths.bytes.now c.args.block c.args.byte index (sym c.has_code-2.ensures ∙ c.if-has_code-2.true) in (
      λ checksum scale name is.
          code_hits c.args.widths.bytes.now c.args.widths.below c.args.widths.records c.args.widths.right checksum scale name c.args.block is index h.from h.to c.args.byte c.requires.1 h.code_is,
      omega (arith, h.to, c.requires.0.1),
    )

pub returns : goal.returns
returns c =
    let first = c.first_code-index in (
      λ checksum scale name is.
          code_misses c.args.widths.bytes.now c.args.widths.below c.args.widths.records c.args.widths.right checksum scale name c.args.block is c.args.byte c.requires.1 first.result (first.ensures checksum scale name is)
          (has_not c.args.widths.bytes.now c.args.block c.args.byte first.result (sym c.has_code-2.ensures ∙ c.if-has_code-2.false)),
      tt,
    )
