-- `areas::paste_part` meets its contract: so many bytes are pasted as the loop has gone round. Assumes nothing.
use mathlib.Core.Path.{◌≡◌}
use lib.Seq.{paste}
use Rattle.areas.proofs.paste_part.Given as goal

abbrev pub invariant-loop-index : goal.invariant-loop-index
invariant-loop-index l = l.out ≡ paste l.initial.out l.at l.bytes l.index
