-- The list of all pages up to one: which it has, how many, and that it is a right list. Assumes nothing.
use Prim.Native.Nat.{ℕ, zero, suc, ◌≤◌}
use mathlib.Core.Path.{◌≡◌, refl}
use mathlib.Core.Bool.{Bool, true, false, ◌||◌, false≢true}
use mathlib.Core.List.{List, [], ◌∷◌, ◌++◌}
use mathlib.Core.Logic.{⊎_elim}
use native.Mathlib.Omega.{arith}
use lib.Dec.{eqb}
use lib.ListN.{length, length-append}
use borrow.Author.Tests.{lt-ltb, le-leb}
use Rattle.numbers.proofs.Radix.{less_or_not}
use Rattle.cutting.specs.Chosen.{is_in, is_empty, rises_from, wrong_list}
use Rattle.rewritten.specs.OldWords.{pages_up_to}
use Rattle.rewritten.proofs.Numbers.{rises_on, in_there}

is_in_front : (list rest : List ℕ) (page : ℕ) → is_in list page ≡ true → is_in (list ++ rest) page ≡ true
is_in_front [] rest page t = absurd (false≢true t)
is_in_front (p ∷ list) rest page t = by (eqb p page) t (is_in_front list rest page)
  where
    by : (here : Bool) → (here || is_in list page) ≡ true → (is_in list page ≡ true → is_in (list ++ rest) page ≡ true) → (here || is_in (list ++ rest) page) ≡ true
    by true t later = refl
    by false t later = later t

-- each page up to the last is in the list
pub up_to_has : (last page : ℕ) → 1 ≤ page → page ≤ last → is_in (pages_up_to last) page ≡ true
up_to_has zero page low high = absurd (omega arith)
up_to_has (suc last) page low high =
    ⊎_elim (λ l. is_in_front (pages_up_to last) (suc last ∷ []) page (up_to_has last page low (omega arith)))
    (λ (g : suc last ≤ page). let same : page ≡ suc last = omega arith in rw same (in_there (pages_up_to last) (suc last) []))
    (less_or_not page (suc last))

-- they are as many
pub up_to_length : (last : ℕ) → length (pages_up_to last) ≡ last
up_to_length zero = refl
up_to_length (suc last) = omega (arith, length-append (pages_up_to last) (suc last ∷ []), up_to_length last)

-- one page more
rises_more : (before last : ℕ) (list : List ℕ) → rises_from before last list ≡ true → before ≤ last → rises_from before (suc last) (list ++ (suc last ∷ [])) ≡ true
rises_more before last [] e h = rw (lt-ltb before (suc last) (omega arith), le-leb (suc last) (suc last) (omega arith))
rises_more before last (p ∷ list) e h =
    let (low, high, on) = rises_on before last p list e in
    rw (lt-ltb before p low, le-leb p (suc last) (omega arith), rises_more p last list on high)

up_to_rises : (last : ℕ) → rises_from 0 last (pages_up_to last) ≡ true
up_to_rises zero = refl
up_to_rises (suc last) = rises_more 0 last (pages_up_to last) (up_to_rises last) (omega arith)

some_there : (list : List ℕ) (page : ℕ) → is_empty (list ++ (page ∷ [])) ≡ false
some_there [] page = refl
some_there (p ∷ list) page = refl

-- where there is a page, the list of all is right
pub up_to_right : (last : ℕ) → 1 ≤ last → wrong_list last (pages_up_to last) ≡ false
up_to_right zero h = absurd (omega arith)
up_to_right (suc last) h = rw (some_there (pages_up_to last) (suc last), up_to_rises (suc last))
