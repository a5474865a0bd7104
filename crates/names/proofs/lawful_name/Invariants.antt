-- `names::lawful_name` meets its contract: what holds of all bytes holds of those that are left. Assumes nothing.
use mathlib.Core.Path.{◌≡◌}
use lib.ListN.{drop}
use Rattle.names.specs.Names.{name_then_zeros}
use Rattle.names.proofs.lawful_name.Given as goal

abbrev pub invariant-loop-index : goal.invariant-loop-index
invariant-loop-index l = name_then_zeros (drop l.index l.bytes) ≡ name_then_zeros l.bytes
