-- The limits of a page's state. Assumes nothing.
use Rattle.std.specs.Prelude.{ℕ}

-- how many levels can be saved (rule 3.4)
abbrev pub deepest : ℕ
deepest = 100

-- how many fonts a file may have (rule 3.5)
abbrev pub most_fonts : ℕ
most_fonts = 64
