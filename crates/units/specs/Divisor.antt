-- The common divisor and lowest terms. Assumes nothing.
use Rattle.std.specs.Prelude.{ℕ, zero, suc, ◌/◌, ◌%◌}
use Rattle.units.specs.declared.Ratio.{Ratio}

-- b takes the place of a, and the remainder of a by b that of b, until b is 0: in at most so many steps (rule 5.2)
unfoldable pub divisor_within : ℕ → ℕ → ℕ → ℕ
divisor_within zero a b = a
divisor_within (suc steps) a zero = a
divisor_within (suc steps) a (suc b) = divisor_within steps (suc b) (a % suc b)

-- the greatest number that divides both: b falls at each step, so b steps are enough (rule 5.2)
unfoldable pub common_divisor : ℕ → ℕ → ℕ
common_divisor a b = divisor_within b a b

-- a/b in lowest terms: both divided by it (rule 5.2)
unfoldable pub lowest : ℕ → ℕ → Ratio
lowest a b = record { p = a / common_divisor a b; q = b / common_divisor a b }
