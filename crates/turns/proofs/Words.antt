-- Small signed numbers read back from machine words. Assumes nothing.
use mathlib.Core.Path.{◌≡◌, sym, subst}
use Prim.Native.Nat.{◌≤◌, ◌^◌}
use native.Mathlib.Omega.{arith}
use lib.IntN.{ℤ, nat_abs}
use mir.Syntax.{w64}
use mir.Val.{to_z, of_z}
use Rattle.numbers.proofs.Signed.{read}

-- a number of 32 bits is read back as it is
pub word : (z : ℤ) → nat_abs z ≤ 2 ^ 31 → to_z w64 (of_z w64 z) ≡ z
word z h = read z (omega arith)

-- and stays as small
pub small_word : (z : ℤ) → nat_abs z ≤ 2 ^ 31 → nat_abs (to_z w64 (of_z w64 z)) ≤ 2 ^ 31
small_word z h = subst (λ (y : ℤ). nat_abs y ≤ 2 ^ 31) (sym (word z h)) h
