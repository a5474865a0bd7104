-- `state::moving::move_past` meets its contract. Assumes nothing.
use mathlib.Core.Path.{ap, ap₂, ◌∙◌}
use Prim.Native.Nat.{◌^◌}
use lib.IntN.{ℤ, ◌+ℤ◌}
use Rattle.units.specs.Rounding.{rounded}
use Rattle.state.specs.declared.moving.KeptSpot.{KeptSpot}
use Rattle.state.specs.Moving.{drifted}
use Rattle.state.proofs.Nearness.{within}
use Rattle.state.proofs.Levels.{centre_in}
use Rattle.state.proofs.Words.{as_word, word_sum, word_sum_small, centre_read}
use Rattle.state.proofs.moving.move_past.Goals as goal

pub settle-requires : goal.settle-requires
settle-requires c =
    let a = c.args in
    let w = c.requires.workable in
    let b = c.requires.width_bound in (
      w.1,
      within (2 ^ 31) (centre_read w.0 a.from.position a.width c.rounded_after-centre.result b.0 b.2 c.rounded_after-centre.ensures)
          (centre_in w.0 (a.from.position +ℤ a.width) b.2),
      word_sum_small a.from.pixel a.escapement w.4 b.1,
    )

pub returns : goal.returns
returns c =
    let a = c.args in
    let w = c.requires.workable in
    let b = c.requires.width_bound in
    let after = a.from.position +ℤ a.width in
    let spot : ℤ → ℤ → ℤ → KeptSpot = λ position middle pixel. record { position = position; rounded = middle; pixel = drifted a.ruler.drift middle pixel } in
    c.settle.ensures
    ∙ ap₂ (λ (position middle : ℤ). spot position middle (as_word (as_word a.from.pixel +ℤ as_word a.escapement))) (word_sum a.from.position a.width w.3 b.0)
    (centre_read w.0 a.from.position a.width c.rounded_after-centre.result b.0 b.2 c.rounded_after-centre.ensures)
    ∙ ap (spot after (rounded a.ruler.k after)) (word_sum a.from.pixel a.escapement w.4 b.1)
