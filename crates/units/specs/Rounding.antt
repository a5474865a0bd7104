-- Distances in pixels: rounded to the nearest, and rounded up. Assumes nothing.
use Rattle.std.specs.Prelude.{ℕ, suc, ◌+◌, ◌*◌, ◌-◌, ◌/◌, ◌&&◌, not, ℤ, pos, negsuc, neg_ℤ, nat_abs}
use Rattle.refusals.specs.Numbers.{wrong_preamble}
use Rattle.refusals.specs.Answer.{Answer, given, refuse_if, and_then}
use Rattle.numbers.specs.Signs.{with_sign, positive}
use Rattle.units.specs.declared.Ratio.{Ratio}
use Rattle.units.specs.Unit.{unit_of}

-- K × m and a half, cut to a whole number (rule 5.5)
unfoldable pub nearest_whole : Ratio → ℕ → ℕ
nearest_whole k m = (2 * k.p * m + k.q) / (2 * k.q)

-- n in pixels, to the nearest; a half goes away from 0 (rule 5.5)
abbrev pub rounded : Ratio → ℤ → ℤ
rounded k n = with_sign n (nearest_whole k (nat_abs n))

-- the least whole number that is not below K × n (rule 5.6)
abbrev pub rounded_up : Ratio → ℤ → ℤ
rounded_up k (pos m) = pos ((k.p * m + (k.q - 1)) / k.q)
rounded_up k (negsuc m) = neg_ℤ (pos (k.p * suc m / k.q))

-- what round_distance answers (rule 9.5)
abbrev pub rounded_distance : ℤ → ℤ → ℤ → ℕ → ℤ → Answer ℤ
rounded_distance num den mag resolution n =
    refuse_if (not (positive num && positive den && positive mag)) wrong_preamble 0
    (and_then (unit_of (nat_abs num) (nat_abs den) (nat_abs mag) resolution) (λ k. given (rounded k n)))
