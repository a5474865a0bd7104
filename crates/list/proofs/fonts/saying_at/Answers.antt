-- `list::fonts::saying_at` meets its contract: a definition's opcode, and its own lengths, tell its part. Assumes nothing.
use mathlib.Core.Path.{ap₂}
use mathlib.Core.Logic.{◌⊎◌}
use Prim.Native.Nat.{ℕ, ◌<◌}
use native.Mathlib.Omega.{arith}
use Rattle.std.proofs.Common.{rules}
use Rattle.list.proofs.Sayings.{opcode_between, part_within, start_is, end_is}
use Rattle.list.proofs.fonts.saying_at.Goals as goal

pub returns-then-not-contains : goal.returns-then-not-contains
returns-then-not-contains c = λ d rest ahead define.
    let outside : (c.in_ok-opcode.field-0.now < 243) ⊎ (246 < c.in_ok-opcode.field-0.now) = search rules in
    absurd (omega (arith, outside, c.in_ok-opcode.ensures.lookup.3.1 0, opcode_between c.args.file.now c.args.at ahead define))

pub returns-then-file-name : goal.returns-then-file-name
returns-then-file-name c = λ d rest ahead define.
    absurd (omega (arith, c.if-file-name.true, part_within c.args.file.now c.args.at ahead define, start_is c.args.file.now c.args.at ahead define (c.in_ok-opcode.ensures.lookup.3.1 0) c.from.ensures))

pub returns-then-file-end : goal.returns-then-file-end
returns-then-file-end c = λ d rest ahead define.
    absurd
    (omega (arith, c.if-file-end.true, part_within c.args.file.now c.args.at ahead define, end_is c.args.file.now c.args.at ahead define (c.in_ok-opcode.ensures.lookup.3.1 0) c.from.ensures c.from-area_length.ensures c.from-name_length.ensures))

pub returns : goal.returns
returns c = (
  omega arith,
  omega arith,
  λ d rest ahead define.
      ap₂ (λ (start end : ℕ). record { start = start; end = end })
      (start_is c.args.file.now c.args.at ahead define (c.in_ok-opcode.ensures.lookup.3.1 0) c.from.ensures)
      (end_is c.args.file.now c.args.at ahead define (c.in_ok-opcode.ensures.lookup.3.1 0) c.from.ensures c.from-area_length.ensures c.from-name_length.ensures),
)
