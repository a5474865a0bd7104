-- What the file of chosen pages has, said of the old list. Assumes nothing.
use Rattle.std.specs.Prelude.{ℕ, zero, suc, ◌+◌, max, Bool, cond, ◌&&◌, List, [], ◌∷◌, ◌++◌, eqb}
use Rattle.commands.specs.Commands.{Command, place}
use Rattle.list.specs.Past.{stage, is_on_page, depth, pages}
use Rattle.cutting.specs.CutList.{opening, cut_after}

-- the new number of a chosen page: how many of the pages up to it are chosen (rule 12.6)
abbrev pub new_number : (ℕ → Bool) → ℕ → ℕ
new_number chosen zero = 0
new_number chosen (suc page) = cond (chosen (suc page)) (new_number chosen page + 1) (new_number chosen page)

-- the greatest depth on the chosen pages (rule 12.6)
abbrev pub deepest_on : (ℕ → Bool) → List Command → ℕ
deepest_on chosen [] = 0
deepest_on chosen (c ∷ past) = max (deepest_on chosen past) (cond (is_on_page (stage (c ∷ past)) && chosen (pages (c ∷ past))) (depth (c ∷ past)) 0)

-- where the old command of a place stands upon an opening: behind what is made of the commands before it (rule 12.6)
abbrev pub new_place_after : List Command → (ℕ → Bool) → List Command → ℕ → ℕ
new_place_after first chosen [] at = 0
new_place_after first chosen (c ∷ past) at =
    cond (eqb (place past) at) (place (cut_after first chosen past)) (new_place_after first chosen past at)

-- where it stands in the new list, if it stays (rule 12.6)
abbrev pub new_place : (ℕ → Bool) → List Command → ℕ → ℕ
new_place chosen old at = new_place_after (opening old) chosen old at

-- the pages from the first to one of a number (rule 12.6)
abbrev pub pages_up_to : ℕ → List ℕ
pages_up_to zero = []
pages_up_to (suc page) = pages_up_to page ++ (suc page ∷ [])
