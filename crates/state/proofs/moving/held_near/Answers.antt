-- `state::moving::held_near` meets its contract: to hold a number between two others is to bring it to the nearer one where it is outside. Assumes nothing.
use Prim.Native.Nat.{ℕ}
use mathlib.Core.Path.{◌≡◌, refl, ◌∙◌}
use mathlib.Core.Bool.{Bool, true, false, cond}
use native.Mathlib.Omega.{arith}
use borrow.Author.Tests.{ltb-true, ltb-false}
use lib.Dec.{ltb}
use lib.IntN.{ℤ, pos, nat_abs, ◌+ℤ◌, ◌-ℤ◌}
use lib.Signed.{lt_z}
use mir.Syntax.{w64}
use mir.Val.{to_z}
use mir.ValLaws.{to_z-of_z}
use Rattle.std.proofs.lemmas.Int.{int_max_is, int_min_is}
use Rattle.std.specs.Int.{int_max, int_min}
use Rattle.numbers.proofs.Signed.{same, lt_yes, lt_no, sum, diff, abs_is, abs_sum, one_part, read_pos}
use Rattle.state.specs.Moving.{drifted}
use Rattle.state.proofs.Words.{as_word, word_is}
use Rattle.state.proofs.moving.held_near.Goals as goal

module _ (d : ℕ) (centre pixel : ℤ) where
  abbrev gap : ℤ
  gap = pixel -ℤ centre

  abbrev low : ℤ
  low = centre -ℤ pos d

  abbrev high : ℤ
  high = centre +ℤ pos d

  clamped_by : (far side : Bool) → ltb d (nat_abs gap) ≡ far → lt_z centre pixel ≡ side → int_max low (int_min pixel high) ≡ cond far (cond side high low) pixel
  clamped_by false side f s =
      same _ _ (omega (arith, int_max_is low (int_min pixel high), int_min_is pixel high, sum centre (pos d), diff centre (pos d), diff pixel centre, abs_is gap, one_part gap, ltb-false d (nat_abs gap) f))
  clamped_by true true f s =
      same _ _ (omega (arith, int_max_is low (int_min pixel high), int_min_is pixel high, sum centre (pos d), diff centre (pos d), diff pixel centre, abs_is gap, one_part gap, ltb-true d (nat_abs gap) f, lt_yes centre pixel s))
  clamped_by true false f s =
      same _ _ (omega (arith, int_max_is low (int_min pixel high), int_min_is pixel high, sum centre (pos d), diff centre (pos d), diff pixel centre, abs_is gap, one_part gap, ltb-true d (nat_abs gap) f, lt_no centre pixel s))

  clamped : int_max low (int_min pixel high) ≡ drifted d centre pixel
  clamped = clamped_by _ _ refl refl

pub returns : goal.returns
returns c =
    let a = c.args in
    let drift = a.drift in
    let reach : to_z w64 drift ≡ pos drift = read_pos drift (omega (arith, c.requires)) in
    let centre : as_word a.centre ≡ a.centre = word_is a.centre (omega (arith, c.requires)) in
    let pixel : as_word a.pixel ≡ a.pixel = word_is a.pixel (omega (arith, c.requires)) in
    let below = a.centre -ℤ pos drift in
    let under : as_word below ≡ below = word_is below (omega (arith, c.requires, diff a.centre (pos drift), abs_is below, one_part below, abs_is a.centre)) in
    let over : as_word (a.centre +ℤ pos drift) ≡ a.centre +ℤ pos drift = word_is (a.centre +ℤ pos drift) (omega (arith, c.requires, abs_sum a.centre (pos drift))) in
    to_z-of_z w64 c.clamp.result (record { sfits = c.clamp.type_inv }) ∙ c.clamp.ensures.value ∙ rw (centre, pixel, reach) (rw (under, over) (clamped drift a.centre a.pixel))
