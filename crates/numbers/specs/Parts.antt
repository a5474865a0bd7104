-- A signed number as the difference of two numbers without sign, of which one is 0. What laws of signed numbers are stated with. Assumes nothing.
use Rattle.std.specs.Prelude.{ℕ, suc, ℤ, pos, negsuc}

-- how far above 0
abbrev pub up : ℤ → ℕ
up (pos n) = n
up (negsuc n) = 0

-- how far below 0
abbrev pub dn : ℤ → ℕ
dn (pos n) = 0
dn (negsuc n) = suc n
