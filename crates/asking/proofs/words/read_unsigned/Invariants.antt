-- What is left of the word goes on from the number so far.
use Rattle.std.proofs.Common.{◌≡◌, ◌≤◌, drop}
use Rattle.asking.specs.Decimal.{decimal_of, decimal_from}
use Rattle.asking.proofs.words.read_unsigned.Given as goal

abbrev pub invariant-loop-byte : goal.invariant-loop-byte
invariant-loop-byte l = (l.value ≤ l.most) × (decimal_of l.most l.word ≡ decimal_from l.most l.value (drop l.byte-index l.word))
