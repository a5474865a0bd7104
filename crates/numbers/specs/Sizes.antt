-- The sizes of fonts. Assumes nothing.
use Rattle.std.specs.Prelude.{ℕ, Bool, ◌&&◌, leb}

-- a scale or a design size that a font may have: 1 to 134,217,727 (rule 1.5)
abbrev pub lawful_size : ℕ → Bool
lawful_size size = leb 1 size && leb size 134217727
