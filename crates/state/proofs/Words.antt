-- What the code reads of a number that it holds in an i64, and of a sum of two. Assumes nothing.
use Prim.Native.Nat.{◌≤◌, ◌^◌}
use mathlib.Core.Path.{◌≡◌, sym, ap, ap₂, ◌∙◌, subst}
use mathlib.Core.Bool.{false}
use native.Mathlib.Omega.{arith}
use lib.IntN.{ℤ, nat_abs, ◌+ℤ◌}
use mir.Syntax.{w64}
use mir.Val.{SFits, to_z, of_z}
use Rattle.numbers.proofs.Signed.{read, abs_sum, sum_fits}
use Rattle.units.specs.declared.Ratio.{Ratio}
use Rattle.units.specs.Rounding.{rounded}
use Rattle.units.specs.Steps.{Workable}
use Rattle.state.specs.Moving.{leaves}
use Rattle.state.proofs.Nearness.{within}
use Rattle.state.proofs.Levels.{centre_in}

-- what the code reads of a number
abbrev pub as_word : ℤ → ℤ
as_word z = to_z w64 (of_z w64 z)

-- it is the number, where that is not too large
pub word_is : (z : ℤ) → nat_abs z ≤ 2 ^ 32 → as_word z ≡ z
word_is z small = read z (omega arith)

-- so with a sum
pub word_sum : (a b : ℤ) → nat_abs a ≤ 2 ^ 31 → nat_abs b ≤ 2 ^ 31 → as_word (as_word a +ℤ as_word b) ≡ a +ℤ b
word_sum a b p q = ap as_word (ap₂ ◌+ℤ◌ (word_is a (omega arith)) (word_is b (omega arith))) ∙ word_is (a +ℤ b) (omega (arith, abs_sum a b))

-- it is not too large
pub word_sum_small : (a b : ℤ) → nat_abs a ≤ 2 ^ 31 → nat_abs b ≤ 2 ^ 31 → nat_abs (as_word (as_word a +ℤ as_word b)) ≤ 2 ^ 32
word_sum_small a b p q = within (2 ^ 32) (word_sum a b p q) (omega (arith, abs_sum a b))

-- and the code can make it
pub word_sum_fits : (a b : ℤ) → nat_abs a ≤ 2 ^ 31 → nat_abs b ≤ 2 ^ 31 → SFits w64 (as_word a +ℤ as_word b)
word_sum_fits a b p q =
    subst (λ (z : ℤ). SFits w64 z) (sym (ap₂ ◌+ℤ◌ (word_is a (omega arith)) (word_is b (omega arith)))) (sum_fits a b (omega arith))

-- a centre that the code has worked out, the rounding of a position that has grown, is read as that
pub centre_read : {k : Ratio} → Workable k → (position n given : ℤ) → nat_abs n ≤ 2 ^ 31 → leaves (position +ℤ n) ≡ false → given ≡ rounded k (position +ℤ as_word n)
    → as_word given ≡ rounded k (position +ℤ n)
centre_read {k} workable position n given small stays e =
    ap as_word (e ∙ ap (λ (z : ℤ). rounded k (position +ℤ z)) (word_is n (omega arith))) ∙ word_is (rounded k (position +ℤ n)) (omega (arith, centre_in workable (position +ℤ n) stays))
