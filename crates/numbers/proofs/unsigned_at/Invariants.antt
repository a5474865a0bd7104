-- `numbers::unsigned_at` meets its contract: after so many bytes the value is the number of these. Assumes nothing.
use mathlib.Core.Path.{◌≡◌}
use Prim.Native.Nat.{◌<◌, ◌^◌}
use Rattle.numbers.specs.Bytes.{unsigned_at}
use Rattle.numbers.proofs.unsigned_at.Given as goal

abbrev pub invariant-loop-byte : goal.invariant-loop-byte
invariant-loop-byte l = (l.value ≡ unsigned_at l.bytes l.at l.byte-index) × (l.value < 256 ^ l.byte-index)
