-- The last three bytes of a fix word. What the laws on widths are stated with. Assumes nothing.
use Rattle.std.specs.Prelude.{ℕ, ◌+◌, ◌*◌, ◌<◌}
use Rattle.scaling.specs.declared.FixWord.{FixWord}

-- the last three parts of a fix word are bytes (rule 6.1)
pub record LastBytes (w : FixWord) : Type 0 where
  pub b1_below : w.b1 < 256
  pub b2_below : w.b2 < 256
  pub b3_below : w.b3 < 256

-- the last three bytes of a fix word as one number (rules 1.2, 6.1)
abbrev pub fraction : FixWord → ℕ
fraction w = w.b1 * 65536 + w.b2 * 256 + w.b3
