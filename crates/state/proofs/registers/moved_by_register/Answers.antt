-- `state::registers::moved_by_register` meets its contract, for every register and either stride. Assumes nothing.
use mathlib.Core.Path.{◌≡◌, ap, ap₂, ◌∙◌, subst}
use mathlib.Core.Bool.{false}
use Prim.Native.Nat.{ℕ, ◌≤◌, ◌^◌}
use native.Mathlib.Omega.{arith}
use lib.IntN.{ℤ, nat_abs, ◌+ℤ◌}
use Rattle.state.specs.declared.KeptLevel.{KeptLevel}
use Rattle.state.specs.declared.moving.Direction.{Direction}
use Rattle.state.specs.declared.moving.Stride.{Stride}
use Rattle.state.specs.declared.moving.Ruler.{Ruler}
use Rattle.state.specs.declared.moving.KeptSpot.{KeptSpot}
use Rattle.state.specs.declared.registers.Register.{Register}
use Rattle.state.specs.Moving.{Spot, leaves, moved}
use Rattle.state.specs.Registers.{direction_of}
use Rattle.state.specs.Steps.{spot_in, kept_spot, other, kept_spot_of, at_kept_spot, kept_with_register, kept_moved_by}
use Rattle.state.proofs.Kept.{spot_kept, kept_in, others_left, unmoved_by_register}
use Rattle.state.proofs.Words.{as_word, word_is}
use Rattle.state.proofs.registers.moved_by_register.Goals as goal

-- what the code has before it moves, from what the calls gave
module _ (register : Register) (n : ℤ) (level holding : KeptLevel) (direction : Direction) (spot : KeptSpot) (small : nat_abs n ≤ 2 ^ 31)
    (direction_is : direction ≡ direction_of register) (given : holding ≡ kept_with_register register (as_word n) level) (found : spot ≡ kept_spot_of direction holding) where
  read : as_word n ≡ n
  read = word_is n (omega arith)

  holding_is : holding ≡ kept_with_register register n level
  holding_is = given ∙ ap (λ (z : ℤ). kept_with_register register z level) read

  spot_is : spot ≡ kept_spot_of (direction_of register) (kept_with_register register n level)
  spot_is = found ∙ ap₂ kept_spot_of direction_is holding_is

  -- a register does not move it
  spot_there : spot ≡ kept_spot_of (direction_of register) level
  spot_there = spot_is ∙ unmoved_by_register register (direction_of register) n level

  -- the level that the code makes
  moves : (stride : Stride) (ruler : Ruler) (scale : ℕ) (to : KeptSpot) (result : KeptLevel)
      → to ≡ kept_spot ruler.k (moved direction stride ruler scale (as_word n) (spot_in spot))
      → result ≡ at_kept_spot direction to holding
      → result ≡ kept_moved_by (direction_of register) stride ruler scale n (kept_with_register register n level)
  moves stride ruler scale to result e f =
      let way = direction_of register in
      let leads : Direction → ℤ → KeptSpot → KeptSpot = λ way z from. kept_spot ruler.k (moved way stride ruler scale z (spot_in from)) in
      f
      ∙ ap₂ (λ (way : Direction) (level : KeptLevel). at_kept_spot way to level) direction_is holding_is
      ∙ ap (λ (at : KeptSpot). at_kept_spot way at (kept_with_register register n level))
      (e ∙ ap (λ (way : Direction). leads way (as_word n) spot) direction_is ∙ ap₂ (leads way) read spot_is)

pub move_by-spot-requires : goal.move_by-spot-requires
move_by-spot-requires c =
    let a = c.args in
    let r = c.requires.ruled in
    let b = c.requires.n_bound in
    let way = direction_of a.register in
    let small = kept_in way a.level r.1 in
    let stays = subst (λ (spot : Spot). leaves (spot.position +ℤ a.n) ≡ false) (spot_kept way a.level) b.1 in
    let there : c.spot_of.result ≡ kept_spot_of way a.level =
    spot_there a.register a.n a.level c.with_register-holding.result c.direction_of-direction.result c.spot_of.result b.0 c.direction_of-direction.ensures c.with_register-holding.ensures c.spot_of.ensures in
    let back : as_word a.n ≡ a.n = word_is a.n (omega (arith, b.0)) in
    rw (there, back) (record { ruled = (r.0, r.2, small.0, small.1); n_bound = (b.0, stays) })

pub returns : goal.returns
returns c =
    let a = c.args in
    let b = c.requires.n_bound in
    let way = direction_of a.register in
    let holds = kept_with_register a.register a.n a.level in
    let moved_so : c.at_spot.result ≡ kept_moved_by way a.stride a.ruler a.scale a.n holds =
    moves a.register a.n a.level c.with_register-holding.result c.direction_of-direction.result c.spot_of.result b.0 c.direction_of-direction.ensures c.with_register-holding.ensures c.spot_of.ensures
    a.stride a.ruler a.scale c.move_by-spot.result c.at_spot.result c.move_by-spot.ensures c.at_spot.ensures in
    record {
      value = moved_so;
      result_value = ap (kept_spot_of (other way)) moved_so
          ∙ others_left way a.stride a.ruler a.scale a.n holds
          ∙ unmoved_by_register a.register (other way) a.n a.level;
    }
