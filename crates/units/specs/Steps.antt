-- What the code's own steps give and keep: cancelling before multiplying, since the products of the raw numbers pass 64 bits. No promise cites this. Assumes nothing.
use Rattle.std.specs.Prelude.{ℕ, ◌*◌, ◌≤◌, ◌<◌, ◌^◌, ◌≡◌}
use Rattle.units.specs.declared.Ratio.{Ratio}
use Rattle.units.specs.declared.Factors.{Factors}
use Rattle.units.specs.Unit.{ratio_of}

-- the fraction that the factors left make
abbrev pub product : ℕ → ℕ → ℕ → ℕ → ℕ → Ratio
product num mag resolution den inch = record { p = num * mag * resolution; q = den * inch }

-- the factors left make K in lowest terms, and none of them grew
pub record Cancelled (num den mag resolution : ℕ) (f : Factors) : Type 0 where
  pub lowest_terms : ratio_of num den mag resolution ≡ product f.num f.mag f.resolution f.den f.inch
  pub num_small : f.num ≤ num
  pub mag_small : f.mag ≤ mag
  pub resolution_small : f.resolution ≤ resolution
  pub resolution_positive : 0 < f.resolution
  pub den_small : f.den ≤ den
  pub inch_small : f.inch ≤ 254000000

-- num, den and mag of a preamble that was accepted
pub record Units (num den mag : ℕ) : Type 0 where
  pub num_positive : 0 < num
  pub num_below : num < 2 ^ 31
  pub den_positive : 0 < den
  pub den_below : den < 2 ^ 31
  pub mag_positive : 0 < mag
  pub mag_below : mag < 2 ^ 31

-- K that the code can work with: at most 1/2, 0 too, with room for a product with 32 bits
pub record Workable (k : Ratio) : Type 0 where
  pub q_positive : 0 < k.q
  pub small : k.p ≤ 1073741823
  pub half : 2 * k.p ≤ k.q
  pub room : k.q < 2 ^ 60
