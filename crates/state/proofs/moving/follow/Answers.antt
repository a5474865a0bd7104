-- `state::moving::follow` meets its contract, in either stride. Assumes nothing.
use mathlib.Core.Path.{◌≡◌, sym, ap, ◌∙◌, subst}
use mathlib.Core.Bool.{Bool}
use Prim.Native.Nat.{◌≤◌, ◌^◌}
use native.Mathlib.Omega.{arith}
use lib.IntN.{ℤ, nat_abs, ◌+ℤ◌}
use mir.Syntax.{w64}
use mir.Val.{SFits}
use Rattle.numbers.proofs.Signed.{abs_sum}
use Rattle.units.specs.Rounding.{rounded, rounded_up}
use Rattle.units.proofs.Rounding.{rounded_half, up_within}
use Rattle.state.specs.declared.moving.Stride.{Stride}
use Rattle.state.specs.declared.moving.Stride.TheVariants.{Rounded}
use Rattle.state.specs.Steps.{followed_to}
use Rattle.state.proofs.Nearness.{within}
use Rattle.state.proofs.Words.{as_word, word_is, word_sum, word_sum_fits}
use Rattle.state.proofs.moving.follow.Goals as goal

-- a step that the code has worked out, and the pixel that has grown by it
module _ (pixel step given : ℤ) (small : nat_abs pixel ≤ 2 ^ 31) (step_small : nat_abs step ≤ 2 ^ 31) (is : given ≡ step) where
  grown_fits : SFits w64 (as_word pixel +ℤ as_word given)
  grown_fits = subst (λ (z : ℤ). SFits w64 (as_word pixel +ℤ as_word z)) (sym is) (word_sum_fits pixel step small step_small)

  grown_is : as_word (as_word pixel +ℤ as_word given) ≡ pixel +ℤ step
  grown_is = ap (λ (z : ℤ). as_word (as_word pixel +ℤ as_word z)) is ∙ word_sum pixel step small step_small

  grown_small : nat_abs (as_word (as_word pixel +ℤ as_word given)) ≤ 2 ^ 32
  grown_small = within (2 ^ 32) grown_is (omega (arith, abs_sum pixel step, small, step_small))

-- near: by rounded n

pub overflow_add-result : goal.overflow_add-result
overflow_add-result c =
    let a = c.args in
    let step = rounded a.ruler.k a.n in
    let step_small : nat_abs step ≤ 2 ^ 31 = omega (arith, rounded_half c.requires.0 a.n, c.requires.1) in
    let is : c.round.result ≡ step = c.round.ensures ∙ ap (rounded a.ruler.k) (word_is a.n (omega (arith, c.requires.1))) in
    grown_fits a.pixel step c.round.result c.requires.2 step_small is

pub returns-then-near : goal.returns-then-near
returns-then-near c =
    let a = c.args in
    let step = rounded a.ruler.k a.n in
    let step_small : nat_abs step ≤ 2 ^ 31 = omega (arith, rounded_half c.requires.0 a.n, c.requires.1) in
    let is : c.round.result ≡ step = c.round.ensures ∙ ap (rounded a.ruler.k) (word_is a.n (omega (arith, c.requires.1))) in
    let z = as_word (as_word a.pixel +ℤ as_word c.round.result) in (
      subst (λ (stride : Stride). z ≡ followed_to a.near stride a.ruler a.n a.pixel a.centre) (sym c.in-Rounded.is)
          (subst (λ (near : Bool). z ≡ followed_to near Rounded a.ruler a.n a.pixel a.centre) (sym c.if-near.true)
          (grown_is a.pixel step c.round.result c.requires.2 step_small is)),
      grown_small a.pixel step c.round.result c.requires.2 step_small is,
    )

-- rounded up: by n rounded up

pub overflow_add-result-in-RoundedUp : goal.overflow_add-result-in-RoundedUp
overflow_add-result-in-RoundedUp c =
    let a = c.args in
    let rise = rounded_up a.ruler.k a.n in
    let rise_small : nat_abs rise ≤ 2 ^ 31 = omega (arith, up_within c.requires.0 a.n, c.requires.1) in
    let is : c.round_up.result ≡ rise = c.round_up.ensures ∙ ap (rounded_up a.ruler.k) (word_is a.n (omega (arith, c.requires.1))) in
    grown_fits a.pixel rise c.round_up.result c.requires.2 rise_small is

pub returns-in-RoundedUp : goal.returns-in-RoundedUp
returns-in-RoundedUp c =
    let a = c.args in
    let rise = rounded_up a.ruler.k a.n in
    let rise_small : nat_abs rise ≤ 2 ^ 31 = omega (arith, up_within c.requires.0 a.n, c.requires.1) in
    let is : c.round_up.result ≡ rise = c.round_up.ensures ∙ ap (rounded_up a.ruler.k) (word_is a.n (omega (arith, c.requires.1))) in
    let z = as_word (as_word a.pixel +ℤ as_word c.round_up.result) in (
      subst (λ (stride : Stride). z ≡ followed_to a.near stride a.ruler a.n a.pixel a.centre) (sym c.in-RoundedUp.is)
          (grown_is a.pixel rise c.round_up.result c.requires.2 rise_small is),
      grown_small a.pixel rise c.round_up.result c.requires.2 rise_small is,
    )
