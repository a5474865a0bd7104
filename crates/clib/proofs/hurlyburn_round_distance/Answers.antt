-- `clib::hurlyburn_round_distance` tells what `reader::round_distance` says. Assumes nothing.
use Rattle.std.proofs.Common.{◌≡◌, ◌∙◌, ℕ, ℤ, refl, w32, SFits, to_z, of_z, to_z-of_z}
use Rattle.units.specs.Rounding.{rounded_distance}
use Rattle.clib.specs.Answers.{signed_numbers}
use Rattle.clib.proofs.Endings.{code_told, array_told}
use Rattle.clib.proofs.hurlyburn_round_distance.Goals as goal

-- a signed number as the code reads it
abbrev read : ℤ → ℤ
read z = to_z w32 (of_z w32 z)

as_read : {num den mag n : ℤ} → SFits w32 num → SFits w32 den → SFits w32 mag → SFits w32 n → (resolution : ℕ)
    → rounded_distance (read num) (read den) (read mag) resolution (read n) ≡ rounded_distance num den mag resolution n
as_read num den mag n resolution = simp (to_z-of_z num, to_z-of_z den, to_z-of_z mag, to_z-of_z n) refl

pub returns-clause-value : goal.returns-clause-value
returns-clause-value c =
    let same = as_read c.ranges.num c.ranges.den c.ranges.mag c.ranges.n c.args.resolution in
    c.tell.ensures.value ∙ code_told 1 c.args.answer.now _ _ (c.round_distance-outcome.ensures ∙ same) c.if-answer-lt1.false

pub returns-clause-answer_after : goal.returns-clause-answer_after
returns-clause-answer_after c =
    let same = as_read c.ranges.num c.ranges.den c.ranges.mag c.ranges.n c.args.resolution in
    c.tell.ensures.answer_after ∙ array_told 1 c.args.answer.now _ _ (c.round_distance-outcome.ensures ∙ same) c.if-answer-lt1.false signed_numbers
