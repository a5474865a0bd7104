-- The bytes so far and what is left of the word are what the word says.
use Rattle.std.proofs.Common.{length}
use Rattle.asking.proofs.HexadecimalLaws.{Read}
use Rattle.asking.proofs.spelled.read_pairs.Given as goal

abbrev pub invariant-loop-done : goal.invariant-loop-done
invariant-loop-done l = Read (length l.initial.buffer) l.word l.buffer l.done
