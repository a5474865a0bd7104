-- `page::walking::walk` meets its contract: each turn keeps what is still to come, and the page's end leaves nothing. Assumes nothing.
use Prim.Native.Nat.{◌-◌}
use lib.ListN.{length}
use Rattle.turns.specs.Steps.{KeptFor}
use Rattle.page.specs.Steps.{AllSeen}
use Rattle.page.proofs.WalkLaws.{Walking}
use Rattle.page.proofs.walking.walk.Given as goal

abbrev pub invariant-loop-stride : goal.invariant-loop-stride
invariant-loop-stride l = Walking l.file l.fonts l.terms l.start l.initial.out l.out l.page l.counts l.at × KeptFor l.terms.widths l.page.font l.kept × AllSeen l.file l.fonts l.terms.widths l.seen

abbrev pub decreases-loop-stride : goal.decreases-loop-stride
decreases-loop-stride l = length l.file - l.at
