-- `names::only_zeros` meets its contract: what holds of all bytes holds of those that are left. Assumes nothing.
use mathlib.Core.Path.{◌≡◌}
use lib.ListN.{drop}
use Rattle.names.specs.Names.{all_zeros}
use Rattle.names.proofs.only_zeros.Given as goal

abbrev pub invariant-loop-byte : goal.invariant-loop-byte
invariant-loop-byte l = all_zeros (drop l.byte-index l.bytes) ≡ all_zeros l.bytes
