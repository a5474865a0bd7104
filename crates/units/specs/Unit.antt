-- What a pixel is, from the file's units and the resolution. Assumes nothing.
use Rattle.std.specs.Prelude.{ℕ, ◌*◌, Bool, ◌&&◌, ◌||◌, not, cond, ltb, leb}
use Rattle.refusals.specs.Numbers.{wrong_resolution, unit_out_of_range}
use Rattle.refusals.specs.Answer.{Answer, given, refuse_if}
use Rattle.units.specs.declared.Ratio.{Ratio}
use Rattle.units.specs.Divisor.{lowest}

-- K, the pixels of one unit, as P/Q (rule 5.2)
abbrev pub ratio_of : ℕ → ℕ → ℕ → ℕ → Ratio
ratio_of num den mag resolution = lowest (num * mag * resolution) (den * 1000 * 254000)

-- P is too large, or K above a half (rule 5.3)
abbrev pub out_of_range : Ratio → Bool
out_of_range k = ltb 1073741823 k.p || ltb k.q (2 * k.p)

-- no resolution from 1 to 10,000 (rule 5.1)
abbrev pub resolution_outside : ℕ → Bool
resolution_outside resolution = not (leb 1 resolution && leb resolution 10000)

-- K, unless it is out of range (rule 5.3)
abbrev pub in_range : Ratio → Answer Ratio
in_range k = refuse_if (out_of_range k) unit_out_of_range 0 (given k)

-- K for a resolution: that is judged first, then K (rule 5.4)
abbrev pub unit_of : ℕ → ℕ → ℕ → ℕ → Answer Ratio
unit_of num den mag resolution =
    refuse_if (resolution_outside resolution) wrong_resolution 0 (in_range (ratio_of num den mag resolution))

-- D at a resolution (rule 5.7)
abbrev pub drift : ℕ → ℕ
drift resolution = cond (leb 200 resolution) 2 (cond (leb 100 resolution) 1 0)
