-- Which pages are chosen. Assumes nothing.
use Rattle.std.specs.Prelude.{ℕ, Bool, true, false, not, ◌&&◌, ◌||◌, List, [], ◌∷◌, ltb, leb, eqb}

-- whether a page is one of the list's (rule 12.3)
abbrev pub is_in : List ℕ → ℕ → Bool
is_in [] page = false
is_in (p ∷ list) page = eqb p page || is_in list page

-- a list without a number (rule 12.1)
abbrev pub is_empty : List ℕ → Bool
is_empty [] = true
is_empty (p ∷ list) = false

-- each number is above the one before it and not above that of the last page (rule 12.1)
abbrev pub rises_from : ℕ → ℕ → List ℕ → Bool
rises_from before last [] = true
rises_from before last (p ∷ list) = ltb before p && (leb p last && rises_from p last list)

-- 23 is due: the list is empty, does not rise, or names a page that is not there (rule 12.1)
abbrev pub wrong_list : ℕ → List ℕ → Bool
wrong_list last list = is_empty list || not (rises_from 0 last list)
