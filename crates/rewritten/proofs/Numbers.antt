-- New page numbers rise with the old ones, so a chosen page has one of its own; and what a right list of page numbers says. Assumes nothing.
use Prim.Native.Nat.{ℕ, zero, suc, ◌+◌, ◌≤◌, ◌<◌}
use mathlib.Core.Path.{◌≡◌, refl, sym, ap, ◌∙◌}
use mathlib.Core.Bool.{Bool, true, false, cond, not, ◌||◌, true≢false, false≢true, and-eq-true_iff, or-true}
use mathlib.Core.List.{List, [], ◌∷◌, ◌++◌}
use mathlib.Core.Logic.{⊎_elim}
use native.Mathlib.Omega.{arith}
use lib.Dec.{eqb, ltb, leb}
use lib.ListN.{length}
use borrow.Author.Tests.{eqb-true, eqb-false, eq-eqb, ne_eqb, ltb-true, leb-true, leb-false, le-leb, lt-leb, not-false}
use Rattle.numbers.proofs.Radix.{less_or_not}
use Rattle.cutting.specs.Chosen.{is_in, is_empty, rises_from, wrong_list}
use Rattle.rewritten.specs.OldWords.{new_number}
use Rattle.rewritten.proofs.Along.{number_positive}

module _ (chosen : ℕ → Bool) where
  -- one page more has no lower number
  number_grows : (page : ℕ) → new_number chosen page ≤ new_number chosen (suc page)
  number_grows page = by (chosen (suc page))
    where
      by : (t : Bool) → new_number chosen page ≤ cond t (new_number chosen page + 1) (new_number chosen page)
      by true = omega arith
      by false = omega arith

  -- nor have more pages
  pub number_le : (p q : ℕ) → p ≤ q → new_number chosen p ≤ new_number chosen q
  number_le p zero h = let e : p ≡ 0 = omega arith in rw e (omega arith)
  number_le p (suc q) h =
      ⊎_elim (λ l. omega (arith, number_le p q (omega arith), number_grows q)) (λ (g : suc q ≤ p). let e : p ≡ suc q = omega arith in rw e (omega arith)) (less_or_not p (suc q))

  -- a chosen page has a higher one than the pages before it
  number_lt : (p q : ℕ) → p < q → chosen q ≡ true → new_number chosen p < new_number chosen q
  number_lt p zero h t = absurd (omega arith)
  number_lt p (suc q) h t = rw t (omega (arith, number_le p q (omega arith)))

  -- chosen pages are told apart by their new numbers
  pub number_tells : (p q : ℕ) → chosen p ≡ true → chosen q ≡ true → eqb (new_number chosen p) (new_number chosen q) ≡ eqb p q
  number_tells p q s t = by (eqb p q) refl
    where
      by : (e : Bool) → eqb p q ≡ e → eqb (new_number chosen p) (new_number chosen q) ≡ e
      by true e = eq-eqb (new_number chosen p) (new_number chosen q) (ap (new_number chosen) (eqb-true p q e))
      by false e =
          ne_eqb (new_number chosen p) (new_number chosen q)
          (λ same. ⊎_elim (λ l. omega (arith, number_lt p q l t))
          (λ g. ⊎_elim (λ l. omega (arith, number_lt q p l s)) (λ h. eqb-false p q e (omega arith)) (less_or_not q p)) (less_or_not p q))

-- ---- a right list

-- each page of a list that rises lies between
rises_in_lem : (before last : ℕ) (list : List ℕ) → rises_from before last list ≡ true → (page : ℕ) → is_in list page ≡ true → (before < page) × (page ≤ last)
rises_in_lem before last [] e page t = absurd (false≢true t)
rises_in_lem before last (p ∷ list) e page t =
    let from = (and-eq-true_iff (ltb before p) _).0 e in
    let next = (and-eq-true_iff (leb p last) _).0 from.1 in
    by (eqb p page) refl t (ltb-true before p from.0) (leb-true p last next.0) (rises_in_lem p last list next.1 page)
  where
    by : (here : Bool) → eqb p page ≡ here → (here || is_in list page) ≡ true → before < p → p ≤ last → (is_in list page ≡ true → (p < page) × (page ≤ last))
        → (before < page) × (page ≤ last)
    by true q t low high later = let same : p ≡ page = eqb-true p page q in (omega arith, omega arith)
    by false q t low high later = let (a, b) = later t in (omega arith, b)

module _ (last : ℕ) (list : List ℕ) (right : wrong_list last list ≡ false) where
  rising : rises_from 0 last list ≡ true
  rising = by (is_empty list) right
    where
      by : (t : Bool) → (t || not (rises_from 0 last list)) ≡ false → rises_from 0 last list ≡ true
      by true e = absurd (true≢false e)
      by false e = not-false (rises_from 0 last list) e

  -- its pages are pages of the file
  pub in_range : (page : ℕ) → is_in list page ≡ true → (1 ≤ page) × (page ≤ last)
  in_range page t = rises_in_lem 0 last list rising page t

  -- page 0 is none of them
  pub not_zero : is_in list 0 ≡ false
  not_zero = by (is_in list 0) refl
    where
      by : (t : Bool) → is_in list 0 ≡ t → t ≡ false
      by true e = absurd (omega (arith, (in_range 0 e).0))
      by false e = refl

  -- there is one at least
  pub some_page : 0 < new_number (is_in list) last
  some_page = first list refl
    where
      first : (l : List ℕ) → list ≡ l → 0 < new_number (is_in list) last
      first [] e = absurd (true≢false (rw e at right))
      first (p ∷ rest) e =
          let there : is_in list p ≡ true = rw (e, eq-eqb p p refl) in
          omega (arith, number_positive (is_in list) p not_zero there, number_le (is_in list) p last (in_range p there).1)

-- ---- the pages keep their order

number_none : (page : ℕ) → new_number (is_in []) page ≡ 0
number_none zero = refl
number_none (suc page) = number_none page

-- one page more in the list
number_cons : (p : ℕ) (list : List ℕ) → 1 ≤ p → is_in list p ≡ false → (q : ℕ) → new_number (is_in (p ∷ list)) q ≡ new_number (is_in list) q + cond (leb p q) 1 0
number_cons p list low out zero = rw (lt-leb p 0 (omega arith))
number_cons p list low out (suc q) = by (eqb p (suc q)) refl (number_cons p list low out q)
  where
    by : (here : Bool) → eqb p (suc q) ≡ here → new_number (is_in (p ∷ list)) q ≡ new_number (is_in list) q + cond (leb p q) 1 0
        → cond (here || is_in list (suc q)) (new_number (is_in (p ∷ list)) q + 1) (new_number (is_in (p ∷ list)) q)
        ≡ cond (is_in list (suc q)) (new_number (is_in list) q + 1) (new_number (is_in list) q) + cond (leb p (suc q)) 1 0
    by true e before =
        let same : p ≡ suc q = eqb-true p (suc q) e in
        let absent : is_in list (suc q) ≡ false = ap (is_in list) (sym same) ∙ out in
        let not_yet : new_number (is_in (p ∷ list)) q ≡ new_number (is_in list) q + 0 = before ∙ (rw (lt-leb p q (omega arith))) in
        rw (absent, le-leb p (suc q) (omega arith)) (omega (arith, not_yet))
    by false e before = also (is_in list (suc q)) (leb p q) refl
      where
        also : (t u : Bool) → leb p q ≡ u
            → cond t (new_number (is_in (p ∷ list)) q + 1) (new_number (is_in (p ∷ list)) q) ≡ cond t (new_number (is_in list) q + 1) (new_number (is_in list) q) + cond (leb p (suc q)) 1 0
        also t true u =
            let reached : new_number (is_in (p ∷ list)) q ≡ new_number (is_in list) q + 1 = before ∙ rw u in
            rw (le-leb p (suc q) (omega (arith, leb-true p q u))) (both t reached)
          where
            both : (t : Bool) → new_number (is_in (p ∷ list)) q ≡ new_number (is_in list) q + 1
                → cond t (new_number (is_in (p ∷ list)) q + 1) (new_number (is_in (p ∷ list)) q) ≡ cond t (new_number (is_in list) q + 1) (new_number (is_in list) q) + 1
            both true e = omega arith
            both false e = e
        also t false u =
            let reached : new_number (is_in (p ∷ list)) q ≡ new_number (is_in list) q + 0 = before ∙ rw u in
            rw (lt-leb p (suc q) (omega (arith, leb-false p q u, eqb-false p (suc q) e))) (both t reached)
          where
            both : (t : Bool) → new_number (is_in (p ∷ list)) q ≡ new_number (is_in list) q + 0
                → cond t (new_number (is_in (p ∷ list)) q + 1) (new_number (is_in (p ∷ list)) q) ≡ cond t (new_number (is_in list) q + 1) (new_number (is_in list) q) + 0
            both true e = omega arith
            both false e = e

-- a page that is not in a rising list: one at or below where it starts
not_below : (before last : ℕ) (list : List ℕ) → rises_from before last list ≡ true → (page : ℕ) → page ≤ before → is_in list page ≡ false
not_below before last list e page h = by (is_in list page) refl
  where
    by : (t : Bool) → is_in list page ≡ t → t ≡ false
    by true t = absurd (omega (arith, (rises_in_lem before last list e page t).0))
    by false t = refl

-- what a rising list goes on with
pub rises_on : (before last p : ℕ) (list : List ℕ) → rises_from before last (p ∷ list) ≡ true → (before < p) × (p ≤ last) × (rises_from p last list ≡ true)
rises_on before last p list e =
    let from = (and-eq-true_iff (ltb before p) _).0 e in
    let next = (and-eq-true_iff (leb p last) _).0 from.1 in
    (ltb-true before p from.0, leb-true p last next.0, next.1)

-- as many as are chosen
number_all : (before last : ℕ) (list : List ℕ) → rises_from before last list ≡ true → new_number (is_in list) last ≡ length list
number_all before last [] e = number_none last
number_all before last (p ∷ list) e =
    let (low, high, on) = rises_on before last p list e in
    number_cons p list (omega arith) (not_below p last list on p (omega arith)) last ∙ rw (le-leb p last high) (omega (arith, number_all p last list on))

-- none of a rising list is at or below where it starts
number_before : (before last : ℕ) (list : List ℕ) → rises_from before last list ≡ true → (page : ℕ) → page ≤ before → new_number (is_in list) page ≡ 0
number_before before last list e zero h = refl
number_before before last list e (suc page) h = rw (not_below before last list e (suc page) h) (number_before before last list e page (omega arith))

-- each page of a list is in it
pub in_there : (front : List ℕ) (p : ℕ) (list : List ℕ) → is_in (front ++ (p ∷ list)) p ≡ true
in_there [] p list = rw (eq-eqb p p refl)
in_there (f ∷ front) p list = rw (in_there front p list) (or-true (eqb f p))

-- the page that stands n-th in the list is the n-th of the new file
number_nth : (before last : ℕ) (front : List ℕ) (p : ℕ) (list : List ℕ) → rises_from before last (front ++ (p ∷ list)) ≡ true
    → new_number (is_in (front ++ (p ∷ list))) p ≡ length front + 1
number_nth before last [] p list e =
    let (low, high, on) = rises_on before last p list e in
    number_cons p list (omega arith) (not_below p last list on p (omega arith)) p ∙ rw (le-leb p p (omega arith), number_before p last list on p (omega arith))
number_nth before last (f ∷ front) p list e =
    let (low, high, on) = rises_on before last f (front ++ (p ∷ list)) e in
    let above = (rises_in_lem f last (front ++ (p ∷ list)) on p (in_there front p list)).0 in
    number_cons f (front ++ (p ∷ list)) (omega arith) (not_below f last (front ++ (p ∷ list)) on f (omega arith)) p
    ∙ rw (le-leb f p (omega arith)) (omega (arith, number_nth f last front p list on))

module _ (last : ℕ) (list : List ℕ) (right : wrong_list last list ≡ false) where
  -- as many as are chosen
  pub all_counted : new_number (is_in list) last ≡ length list
  all_counted = number_all 0 last list (rising last list right)

  -- the n-th page of the list is the n-th of the new file
  pub nth_number : (front : List ℕ) (page : ℕ) (rest : List ℕ) → list ≡ front ++ (page ∷ rest) → (is_in list page ≡ true) × (new_number (is_in list) page ≡ length front + 1)
  nth_number front page rest e = rw e (in_there front page rest, number_nth 0 last front page rest (rw e at (rising last list right)))
