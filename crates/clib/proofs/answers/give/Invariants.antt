-- `clib::answers::give` meets its contract: so many numbers stand in front as the loop has gone round. Assumes nothing.
use mathlib.Core.Path.{◌≡◌}
use lib.Seq.{paste}
use Rattle.clib.proofs.answers.give.Given as goal

abbrev pub invariant-loop-index : goal.invariant-loop-index
invariant-loop-index l = l.answer ≡ paste l.initial.answer 0 l.numbers l.index
