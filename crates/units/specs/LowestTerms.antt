-- What it means that a fraction is in lowest terms. What the law that they are unique is stated with. Assumes nothing.
use Rattle.std.specs.Prelude.{ℕ, ◌≡◌}
use Rattle.std.specs.Int.{◌∣◌}
use Rattle.units.specs.declared.Ratio.{Ratio}

-- two numbers without a common divisor but 1 (rule 5.2)
abbrev pub Apart : ℕ → ℕ → Type 0
Apart a b = (d : ℕ) → d ∣ a → d ∣ b → d ≡ 1

-- the fraction p/q (rule 5.2)
abbrev pub ratio : ℕ → ℕ → Ratio
ratio p q = record { p = p; q = q }
