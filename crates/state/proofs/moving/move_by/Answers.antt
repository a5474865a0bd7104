-- `state::moving::move_by` meets its contract, in either direction and stride. Assumes nothing.
use mathlib.Core.Path.{◌≡◌, refl, ap, ap₂, ◌∙◌}
use mathlib.Core.Bool.{Bool}
use Prim.Native.Nat.{ℕ, ◌≤◌, ◌^◌}
use native.Mathlib.Omega.{arith}
use lib.IntN.{ℤ, nat_abs, ◌+ℤ◌}
use Rattle.units.specs.Rounding.{rounded}
use Rattle.state.specs.declared.moving.Direction.{Direction}
use Rattle.state.specs.declared.moving.Stride.{Stride}
use Rattle.state.specs.declared.moving.Stride.TheVariants.{Rounded, RoundedUp}
use Rattle.state.specs.declared.moving.Ruler.{Ruler}
use Rattle.state.specs.declared.moving.KeptSpot.{KeptSpot}
use Rattle.state.specs.Moving.{Spot, near, drifted, followed}
use Rattle.state.specs.Steps.{followed_to, spot_in}
use Rattle.state.proofs.Nearness.{within}
use Rattle.state.proofs.Levels.{centre_in}
use Rattle.state.proofs.Words.{as_word, word_is, word_sum, centre_read}
use Rattle.state.proofs.moving.move_by.Goals as goal

-- where the pixel goes is where the meaning has it go
follows : (direction : Direction) (stride : Stride) (ruler : Ruler) (scale : ℕ) (n : ℤ) (spot : Spot)
    → followed_to (near direction n scale) stride ruler n spot.pixel (rounded ruler.k (spot.position +ℤ n)) ≡ followed direction stride ruler scale n spot
follows direction Rounded ruler scale n spot = refl
follows direction RoundedUp ruler scale n spot = refl

-- the pixel that has followed, from what the calls gave
pixel_is : (direction : Direction) (stride : Stride) (ruler : Ruler) (scale : ℕ) (n : ℤ) (spot : Spot) (is_near : Bool) (centre pixel : ℤ)
    → nat_abs n ≤ 2 ^ 31 → nat_abs spot.pixel ≤ 2 ^ 31 → nat_abs pixel ≤ 2 ^ 32
    → is_near ≡ near direction (as_word n) scale
    → centre ≡ rounded ruler.k (spot.position +ℤ n)
    → pixel ≡ followed_to is_near stride ruler (as_word n) (as_word spot.pixel) centre
    → as_word pixel ≡ followed direction stride ruler scale n spot
pixel_is direction stride ruler scale n spot is_near centre pixel n_small spot_small small near_is centre_is e =
    let read : as_word n ≡ n = word_is n (omega arith) in
    word_is pixel small
    ∙ e
    ∙ ap (λ (t : Bool). followed_to t stride ruler (as_word n) (as_word spot.pixel) centre) (near_is ∙ ap (λ (z : ℤ). near direction z scale) read)
    ∙ ap₂ (λ (z from : ℤ). followed_to (near direction n scale) stride ruler z from centre) read (word_is spot.pixel (omega arith))
    ∙ ap (followed_to (near direction n scale) stride ruler n spot.pixel) centre_is
    ∙ follows direction stride ruler scale n spot

pub follow-pixel-requires : goal.follow-pixel-requires
follow-pixel-requires c =
    let a = c.args in
    let r = c.requires.ruled in
    let b = c.requires.n_bound in (
      r.0.unit,
      within (2 ^ 31) (word_is a.n (omega (arith, b.0))) b.0,
      within (2 ^ 31) (word_is a.from.pixel (omega (arith, r.3))) r.3,
      within (2 ^ 31) (centre_read r.0.unit a.from.position a.n c.rounded_after-centre.result b.0 b.1 c.rounded_after-centre.ensures)
          (centre_in r.0.unit (a.from.position +ℤ a.n) b.1),
    )

pub settle-requires : goal.settle-requires
settle-requires c =
    let a = c.args in
    let r = c.requires.ruled in
    let b = c.requires.n_bound in
    let follow = c.follow-pixel in (
      r.0.drift_small,
      within (2 ^ 31) (centre_read r.0.unit a.from.position a.n c.rounded_after-centre.result b.0 b.1 c.rounded_after-centre.ensures)
          (centre_in r.0.unit (a.from.position +ℤ a.n) b.1),
      within (2 ^ 32) (word_is follow.result follow.ensures.1) follow.ensures.1,
    )

pub returns : goal.returns
returns c =
    let a = c.args in
    let r = c.requires.ruled in
    let b = c.requires.n_bound in
    let follow = c.follow-pixel in
    let after = a.from.position +ℤ a.n in
    let centre : as_word c.rounded_after-centre.result ≡ rounded a.ruler.k after =
    centre_read r.0.unit a.from.position a.n c.rounded_after-centre.result b.0 b.1 c.rounded_after-centre.ensures in
    let spot : ℤ → ℤ → ℤ → KeptSpot = λ position middle pixel. record { position = position; rounded = middle; pixel = drifted a.ruler.drift middle pixel } in
    c.settle.ensures
    ∙ ap₂ (λ (position middle : ℤ). spot position middle (as_word follow.result)) (word_sum a.from.position a.n r.2 b.0) centre
    ∙ ap (spot after (rounded a.ruler.k after))
    (pixel_is a.direction a.stride a.ruler a.scale a.n (spot_in a.from) c.is_near-near.result (as_word c.rounded_after-centre.result) follow.result b.0 r.3 follow.ensures.1 c.is_near-near.ensures centre follow.ensures.0)
