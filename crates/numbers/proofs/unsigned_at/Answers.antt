-- `numbers::unsigned_at` meets its contract: after so many bytes the value is the number of these. Assumes nothing.
use mathlib.Core.Path.{refl, sym, ap₂, ◌∙◌}
use Prim.Native.Nat.{ℕ, ◌+◌, ◌-◌, ◌*◌}
use native.Mathlib.Omega.{arith}
use Rattle.numbers.specs.Bytes.{unsigned_at}
use Rattle.numbers.proofs.Bytes.{byte_of_part, unsigned_more, power_more, power_le}
use Rattle.numbers.proofs.unsigned_at.Goals as goal

pub loop-byte-init : goal.loop-byte-init
unfolding unsigned_at
loop-byte-init c = (refl, omega arith)

pub overflow_mul-value : goal.overflow_mul-value
overflow_mul-value c = omega (arith, power_le c.loop-byte.byte-index 7 (omega arith))

pub overflow_add-value : goal.overflow_add-value
overflow_add-value c = omega (arith, power_le c.loop-byte.byte-index 7 (omega arith))

pub loop-byte-preserved : goal.loop-byte-preserved
loop-byte-preserved c =
    let a = c.args in
    let l = c.loop-byte in
    let byte = c.from.ensures ∙ byte_of_part a.bytes.now a.at (a.at + a.count - a.at) l.byte-index c.loop-byte-test.true in
    (ap₂ (λ (v b : ℕ). v * 256 + b) l.invariant.0 byte ∙ sym (unsigned_more a.bytes.now a.at l.byte-index), omega (arith, power_more l.byte-index))
