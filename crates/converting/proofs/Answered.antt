-- What is answered of a table that was judged, by the room of the area. Assumes nothing.
use Prim.Native.Nat.{ℕ, ◌*◌, ◌/◌, ◌≤◌, ◌<◌}
use mathlib.Core.Path.{◌≡◌, sym, ap, subst, ◌∙◌}
use mathlib.Core.Bool.{Bool}
use mathlib.Core.Logic.{◌↔◌}
use native.Mathlib.Nat.{div-lt_iff_lt-mul}
use borrow.Author.Tests.{lt-ltb, le-ltb, ltb-false}
use lib.Dec.{ltb}
use Rattle.refusals.specs.Numbers.{area_too_short}
use Rattle.refusals.specs.Answer.{Answer, refused, given, refuse_if, and_then}
use Rattle.refusals.proofs.Answer.{given_next, given_same, then_given}
use Rattle.converting.specs.Converting.{with_room}

-- no room for so many records
pub room_short : (room size records : ℕ) → room < records * size → refused area_too_short 0 ≡ with_room room size records
room_short room size records h = ap (λ (t : Bool). refuse_if t area_too_short 0 (given records)) (sym (lt-ltb room (records * size) h))

module _ (judged : Answer ℕ) (room size : ℕ) where
  abbrev pub answered : Answer ℕ
  answered = and_then judged (with_room room size)

  pub answered_refused : {number place : ℕ} → judged ≡ refused number place → answered ≡ refused number place
  answered_refused e = ap (λ (a : Answer ℕ). and_then a (with_room room size)) e

  pub answered_given : {records : ℕ} → judged ≡ given records → records * size ≤ room → answered ≡ given records
  answered_given {records} e h =
      ap (λ (a : Answer ℕ). and_then a (with_room room size)) e ∙ ap (λ (t : Bool). refuse_if t area_too_short 0 (given records)) (le-ltb room (records * size) h)

  -- a result is what was judged, and there is room for it
  pub answered_as : (records : ℕ) → (answered ≡ given records) ↔ ((judged ≡ given records) × (records * size ≤ room))
  answered_as records = (
    λ e.
        let (n, is, last) = then_given judged (with_room room size) records e in
        let (fits, same) = given_next (ltb room (n * size)) area_too_short 0 (given n) records last in
        let records_are : n ≡ records = given_same n records same in
        (is ∙ ap given records_are, subst (λ (k : ℕ). k * size ≤ room) records_are (ltb-false room (n * size) fits)),
    λ both. answered_given both.0 both.1,
  )

-- the room counted in records
pub too_few : (room size records : ℕ) → 0 < size → room / size < records → room < records * size
too_few room size records some h = (div-lt_iff_lt-mul some).0 h
