-- `Lengths::fixed` meets its contract. Assumes nothing.
use borrow.Author.Tests.{lt-ltb, le-ltb}
use Rattle.commands.specs.Lengths.{fixed_length}
use Rattle.commands.proofs.Lengths.fixed.Goals as goal

pub returns-then-opcode-lt128 : goal.returns-then-opcode-lt128
unfolding fixed_length
returns-then-opcode-lt128 c = rw (lt-ltb _ _ c.if-opcode-lt128.true)

pub returns : goal.returns
unfolding fixed_length
returns c = rw (le-ltb _ _ c.if-opcode-lt128.false, ← c.args.self.now.right, ← c.from.ensures) c.from-2.ensures
