-- A rising list of page numbers, met from its front. Assumes nothing.
use Prim.Native.Nat.{ℕ, zero, suc, ◌+◌, ◌≤◌, ◌<◌}
use mathlib.Core.Path.{◌≡◌, refl, sym, ap, ◌∙◌}
use mathlib.Core.Bool.{true, false, cond, ◌||◌, and-eq-true_iff}
use mathlib.Core.List.{List, [], ◌∷◌}
use mathlib.Core.Logic.{⊎_elim}
use native.Mathlib.Omega.{arith}
use lib.Dec.{eqb, ltb, leb}
use lib.ListN.{length, get_or, drop}
use lib.Seq.{drop-cons, drop-nil}
use borrow.Author.Tests.{eq-eqb, ne_eqb, ltb-true, lt-ltb, le-ltb}
use Rattle.numbers.proofs.Radix.{less_or_not}
use Rattle.cutting.specs.Chosen.{is_in, rises_from}
use Rattle.cutting.specs.Steps.{next_chosen}

-- past its end a list has nothing left
gone : (list : List ℕ) (n : ℕ) → length list ≤ n → drop n list ≡ []
gone [] n h = drop-nil n
gone (p ∷ list) zero h = absurd (omega arith)
gone (p ∷ list) (suc n) h = gone list n (omega arith)

-- ---- judging the list

module _ (last : ℕ) (list : List ℕ) where
  -- what is judged from the front on: above the number before, the list goes on from an index as the whole does from its start
  abbrev pub Judging : ℕ → ℕ → Type 0
  Judging before index = rises_from 0 last list ≡ rises_from before last (drop index list)

-- ---- meeting its pages one after the other

-- what a rising list goes on with
rises_on : (before last p : ℕ) (list : List ℕ) → rises_from before last (p ∷ list) ≡ true → (before < p) × (rises_from p last list ≡ true)
rises_on before last p list e =
    let from = (and-eq-true_iff (ltb before p) _).0 e in
    let next = (and-eq-true_iff (leb p last) _).0 from.1 in
    (ltb-true before p from.0, next.1)

-- a page at or below where a list starts to rise is none of it
pub not_below : (before last : ℕ) (list : List ℕ) → rises_from before last list ≡ true → (page : ℕ) → page ≤ before → is_in list page ≡ false
not_below before last [] e page h = refl
not_below before last (p ∷ list) e page h =
    let (low, on) = rises_on before last p list e in
    rw (ne_eqb p page (λ same. omega arith)) (not_below p last list on page (omega arith))

-- so many pages of a list are met among the pages so far: the others are above, and they are what the list has from there on
pub record Ahead (list : List ℕ) (page met : ℕ) : Type 0 where
  pub last : ℕ
  pub rising : rises_from page last (drop met list) ≡ true
  pub later : (other : ℕ) → page < other → is_in list other ≡ is_in (drop met list) other
  pub few : met ≤ page

-- at the start
pub none_met : (last : ℕ) (list : List ℕ) → rises_from 0 last list ≡ true → Ahead list 0 0
none_met last list e = record { last = last; rising = e; later = λ other h. refl; few = omega arith }

module _ (list : List ℕ) (page met : ℕ) (a : Ahead list page met) where
  -- what becomes of the next page
  pub record Next : Type 0 where
    pub chosen_is : next_chosen list met page ≡ is_in list (page + 1)
    pub goes_on : Ahead list (page + 1) (cond (next_chosen list met page) (met + 1) met)

  -- where the list is at its end
  at_end : length list ≤ met → drop met list ≡ [] → Next
  at_end over none_left =
      let short : ltb met (length list) ≡ false = le-ltb met (length list) over in
      record {
        chosen_is = rw short (sym (a.later (page + 1) (omega arith) ∙ ap (λ (l : List ℕ). is_in l (page + 1)) none_left));
        goes_on = rw short (record {
          last = a.last;
          rising = ap (rises_from (page + 1) a.last) none_left;
          later = λ other h. a.later other (omega arith);
          few = omega (arith, a.few);
        });
      }

  module _ (there : met < length list) where
    abbrev p : ℕ
    p = get_or list met 0

    abbrev rest : List ℕ
    rest = drop (suc met) list

    left : drop met list ≡ p ∷ rest
    left = drop-cons list met 0 there

    above : (page < p) × (rises_from p a.last rest ≡ true)
    above = rises_on page a.last p rest (ap (rises_from page a.last) (sym left) ∙ a.rising)

    chosen : next_chosen list met page ≡ eqb p (page + 1)
    chosen = rw (lt-ltb met (length list) there) refl

    in_left : (other : ℕ) → page < other → is_in list other ≡ (eqb p other || is_in rest other)
    in_left other h = a.later other h ∙ ap (λ (l : List ℕ). is_in l other) left

    -- it is the next page
    is_next : p ≡ page + 1 → Next
    is_next same =
        let yes : next_chosen list met page ≡ true = chosen ∙ eq-eqb p (page + 1) same in
        let one : met + 1 ≡ suc met = omega arith in
        record {
          chosen_is = yes ∙ sym (in_left (page + 1) (omega arith) ∙ rw (eq-eqb p (page + 1) same));
          goes_on = rw (yes, one) (record {
            last = a.last;
            rising = ap (λ (n : ℕ). rises_from n a.last rest) (sym same) ∙ above.1;
            later = λ other h. in_left other (omega arith) ∙ rw (ne_eqb p other (λ e. omega arith)) refl;
            few = omega (arith, a.few);
          });
        }

    -- it is a later one
    is_later : page + 1 < p → Next
    is_later far =
        let no-next : next_chosen list met page ≡ false = chosen ∙ ne_eqb p (page + 1) (λ e. omega arith) in
        record {
          chosen_is =
              no-next ∙ sym (in_left (page + 1) (omega arith) ∙ rw (ne_eqb p (page + 1) (λ e. omega arith)) (not_below p a.last rest above.1 (page + 1) (omega arith)));
          goes_on = rw no-next (record {
            last = a.last;
            rising = ap (rises_from (page + 1) a.last) left ∙ rw (lt-ltb (page + 1) p far, in_range) above.1;
            later = λ other h. a.later other (omega arith);
            few = omega (arith, a.few);
          });
        }
      where
        in_range : leb p a.last ≡ true
        in_range =
            let whole : rises_from page a.last (p ∷ rest) ≡ true = ap (rises_from page a.last) (sym left) ∙ a.rising in
            ((and-eq-true_iff (leb p a.last) _).0 ((and-eq-true_iff (ltb page p) _).0 whole).1).0

  -- the next page
  pub next_page : Next
  next_page =
      ⊎_elim (λ there. ⊎_elim (is_later there) (λ near. is_next there (omega (arith, (above there).0))) (less_or_not (page + 1) (get_or list met 0)))
      (λ over. at_end over (gone list met over)) (less_or_not met (length list))
