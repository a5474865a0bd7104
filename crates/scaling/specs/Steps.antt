-- What the code's own steps give and keep; no promise cites this. Assumes nothing.
use Rattle.std.specs.Prelude.{ℕ, ◌*◌, ◌/◌, cond, eqb, ℤ, pos, ◌-ℤ◌}
use Rattle.scaling.specs.declared.FixWord.{FixWord}
use Rattle.scaling.specs.Scaling.{halved}
use Rattle.scaling.specs.Fractions.{fraction}

-- sixteen times a scale, less the bits that halving loses
unfoldable pub sixteenfold_of : ℕ → ℕ
sixteenfold_of scale = (halved scale).alpha * (halved scale).z

-- a width from the sixteenfold of its scale: the last three bytes are 2^24ths of it, a first byte of 255 takes it away
abbrev pub width_from : ℕ → FixWord → ℤ
width_from sixteenfold w = let positive = fraction w * sixteenfold / 16777216 in cond (eqb w.b0 255) (pos positive -ℤ pos sixteenfold) (pos positive)
