-- `converting::converting::write_records` meets its contract. Assumes nothing.
use mathlib.Core.Path.{◌≡◌}
use lib.Seq.{sets}
use Rattle.converting.specs.Converting.{in_form}
use Rattle.converting.proofs.converting.write_records.Given as goal

abbrev pub invariant-loop-index : goal.invariant-loop-index
invariant-loop-index g l = l.out ≡ sets l.initial.out 0 (in_form g.row.FROM g.row.TO l.index l.table)
