-- `Lengths::read` meets its contract: each return is one case of what stands at the place. Assumes nothing.
use native.Mathlib.Omega.{arith}
use Rattle.commands.specs.Lengths.{size_of}
use Rattle.commands.proofs.Readings.{read_undefined, read_cut, read_whole}
use Rattle.commands.proofs.Lengths.read.Goals as goal

pub returns-then-opcode-ge250 : goal.returns-then-opcode-ge250
returns-then-opcode-ge250 c = read_undefined _ _ c.in-Some.ensures.lookup.3 (omega arith)

pub returns-then-left-fixed : goal.returns-then-left-fixed
unfolding size_of
returns-then-left-fixed c = read_cut _ _ c.in-Some.ensures.lookup.3 (omega arith) (omega arith)

pub returns-then-left-fixed-2 : goal.returns-then-left-fixed-2
unfolding size_of
returns-then-left-fixed-2 c = read_cut _ _ c.in-Some.ensures.lookup.3 (omega arith) (omega arith)

pub returns : goal.returns
unfolding size_of
returns c = read_whole c.args.file.now c.args.at c.in-Some.ensures.lookup.3 (omega arith) (omega arith) (omega (arith, c.in-Some.ensures.lookup.3.0))
