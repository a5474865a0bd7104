-- The fonts of a file that is accepted: their numbers and sizes, and that just the fonts defined before post are defined after it. Assumes nothing.
use Prim.Native.Nat.{ℕ, zero, suc, ◌+◌, ◌<◌, ◌≤◌}
use mathlib.Core.Path.{◌≡◌, refl, sym, ap, ◌∙◌, subst}
use mathlib.Core.Bool.{Bool, true, false, cond, not, ◌&&◌, ◌||◌, and-eq-true_iff, true≢false, false≢true}
use mathlib.Core.List.{List, ◌∷◌}
use mathlib.Core.Logic.{⊎_elim}
use native.Mathlib.Omega.{arith}
use lib.Dec.{eqb, leb}
use lib.IntN.{ℤ, pos, nat_abs}
use borrow.Author.Tests.{not-false, eqb-true, eqb-false, eq-eqb, ne_eqb, leb-true}
use Rattle.numbers.specs.Signs.{same_number}
use Rattle.numbers.proofs.Signed.{same_number_refl, same_number_true}
use Rattle.numbers.specs.Sizes.{lawful_size}
use Rattle.commands.specs.declared.Kind.TheVariants.{Define, PostPost}
use Rattle.commands.specs.Kinds.{is}
use Rattle.commands.specs.Commands.{Command, kind_of_command, place}
use Rattle.commands.specs.Parameters.{font_scale, font_design_size}
use Rattle.numbers.proofs.Radix.{less_or_not}
use Rattle.list.specs.Past.{stage, is_after_post, font_number, body, defines, Definition, none, stands, definition_of, is_defined, font_count}
use Rattle.list.specs.Rules.{lawful_font, says, Allowed}
use Rattle.list.specs.Lawful.{Keeps}
use Rattle.list.proofs.SameBytes.{same_true}
use Rattle.list.proofs.FontTables.{lawful_in, defines_kind}
use Rattle.promises.specs.Standing.{StandsAmong}
use Rattle.rewritten.proofs.Defining.{Right, right}
use Rattle.promises.proofs.Volumes.{PastKeeps, no_more, and_one, kept_there, is_there}

-- ---- how many numbers pass a test

-- of those below a bound
abbrev tally : (ℕ → Bool) → ℕ → ℕ
tally f zero = 0
tally f (suc n) = cond (f n) (tally f n + 1) (tally f n)

-- a wider test is passed by no fewer
tally_wider : (f g : ℕ → Bool) (bound : ℕ) → ((n : ℕ) → n < bound → f n ≡ true → g n ≡ true) → tally f bound ≤ tally g bound
tally_wider f g zero wider = omega arith
tally_wider f g (suc n) wider = by (f n) (g n) (wider n (omega arith)) (tally_wider f g n (λ m h. wider m (omega arith)))
  where
    by : (x y : Bool) → (x ≡ true → y ≡ true) → tally f n ≤ tally g n → cond x (tally f n + 1) (tally f n) ≤ cond y (tally g n + 1) (tally g n)
    by true true w h = omega arith
    by true false w h = absurd (true≢false (sym (w refl)))
    by false true w h = omega arith
    by false false w h = h

-- a test that one number more passes is passed by one more
tally_more : (f g : ℕ → Bool) (m bound : ℕ) → f m ≡ false → g m ≡ true → ((n : ℕ) → (n ≡ m → ⊥) → g n ≡ f n) → m < bound → tally g bound ≡ tally f bound + 1
tally_more f g m zero off on same h = absurd (omega arith)
tally_more f g m (suc n) off on same h = by (eqb n m) refl (tally_more f g m n off on same)
  where
    by : (here : Bool) → eqb n m ≡ here → (m < n → tally g n ≡ tally f n + 1) → tally g (suc n) ≡ tally f (suc n) + 1
    by true e below =
        let q : n ≡ m = eqb-true n m e in
        let off-here : f n ≡ false = ap f q ∙ off in
        let on-here : g n ≡ true = ap g q ∙ on in
        let up = tally_wider f g n (λ k l t. same k (λ z. omega arith) ∙ t) in
        let down = tally_wider g f n (λ k l t. sym (same k (λ z. omega arith)) ∙ t) in
        rw (off-here, on-here) (omega (arith, up, down))
    by false e below = let other = eqb-false n m e in rw (same n other) (both (f n) (below (⊎_elim (λ l. l) (λ l. absurd (other (omega arith))) (less_or_not m n))))
      where
        both : (x : Bool) → tally g n ≡ tally f n + 1 → cond x (tally g n + 1) (tally g n) ≡ cond x (tally f n + 1) (tally f n) + 1
        both true q = omega arith
        both false q = q

-- ---- one more command

module _ {past : List Command} {c : Command} (allowed : Allowed past c) (after : Bool) (defining : defines after (stage past) (kind_of_command c) ≡ true) where
  -- a command that defines a font keeps a definition's rules
  its_rules : Right past c
  its_rules = right allowed (defines_kind after (stage past) c.opcode defining)

  -- it stands before post, or after it
  its_time : is_after_post (stage past) ≡ after
  its_time = by after (is_after_post (stage past)) ((and-eq-true_iff (is (kind_of_command c) Define) _).0 defining).1
    where
      by : (x y : Bool) → cond x y (not y) ≡ true → y ≡ x
      by true y e = e
      by false true e = absurd (true≢false (sym e))
      by false false e = refl

  -- its font is a new one
  new_font : definition_of after (font_number c) past ≡ none
  new_font = by after its_time
    where
      by : (x : Bool) → is_after_post (stage past) ≡ x → definition_of x (font_number c) past ≡ none
      by true t = (its_rules.late t).0
      by false t = (its_rules.early t).0

-- the test whether a font is defined
abbrev has : Bool → List Command → ℕ → Bool
has after past n = is_defined (definition_of after (pos n) past)

tally_none : (bound : ℕ) → tally (λ n. false) bound ≡ 0
tally_none zero = refl
tally_none (suc n) = tally_none n

-- the fonts are counted, each once
counted : {past : List Command} (after : Bool) (bound : ℕ) → 256 ≤ bound → PastKeeps past → font_count after past ≡ tally (has after past) bound
counted after bound enough no_more = sym (tally_none bound)
counted after bound enough (and_one {past = past} {c = c} kept allowed) = by (defines after (stage past) (kind_of_command c)) refl (counted after bound enough kept)
  where
    by : (defining : Bool) → defines after (stage past) (kind_of_command c) ≡ defining → font_count after past ≡ tally (has after past) bound
        → cond defining (font_count after past + 1) (font_count after past)
        ≡ tally (λ n. is_defined (cond (defining && same_number (font_number c) (pos n)) (stands (place past) c) (definition_of after (pos n) past))) bound
    by true e before =
        let (sign, small, named) = lawful_in (font_number c) (its_rules allowed after e).number in
        let m = nat_abs (font_number c) in
        let off : has after past m ≡ false = ap is_defined (ap (λ (z : ℤ). definition_of after z past) named ∙ new_font allowed after e) in
        let found : Bool → ℕ → Bool = λ t n. is_defined (cond t (stands (place past) c) (definition_of after (pos n) past)) in
        let on : found (same_number (font_number c) (pos m)) m ≡ true = ap (λ (t : Bool). found t m) (ap (same_number (font_number c)) named ∙ same_number_refl (font_number c)) in
        let others : (n : ℕ) → (n ≡ m → ⊥) → found (same_number (font_number c) (pos n)) n ≡ has after past n =
        λ n other. ap (λ (t : Bool). found t n) (differ n other) in
        ap (λ (n : ℕ). n + 1) before ∙ sym (tally_more (has after past) (λ n. found (same_number (font_number c) (pos n)) n) m bound off on others (omega arith))
      where
        differ : (n : ℕ) → (n ≡ nat_abs (font_number c) → ⊥) → same_number (font_number c) (pos n) ≡ false
        differ n other = is-not (same_number (font_number c) (pos n)) refl
          where
            is-not : (t : Bool) → same_number (font_number c) (pos n) ≡ t → t ≡ false
            is-not true e = absurd (other (sym (ap nat_abs (same_number_true (font_number c) (pos n) e))))
            is-not false e = refl
    by false e before = before

-- ---- before post and after it

-- a definition after post says what the one before it says
agreed : {past : List Command} → PastKeeps past → (number : ℤ) {at : ℕ} {d : Command} → definition_of true number past ≡ stands at d → says (definition_of false number past) (body d) ≡ true
agreed no_more number e = absurd (false≢true (ap is_defined e))
agreed (and_one {past = past} {c = c} kept allowed) number {at} {d} e =
    by (defines true (stage past) (kind_of_command c)) refl (defines false (stage past) (kind_of_command c)) refl (same_number (font_number c) number) refl e (agreed kept number)
  where
    by : (late : Bool) → defines true (stage past) (kind_of_command c) ≡ late → (early : Bool) → defines false (stage past) (kind_of_command c) ≡ early
        → (same : Bool) → same_number (font_number c) number ≡ same
        → cond (late && same) (stands (place past) c) (definition_of true number past) ≡ stands at d
        → (definition_of true number past ≡ stands at d → says (definition_of false number past) (body d) ≡ true)
        → says (cond (early && same) (stands (place past) c) (definition_of false number past)) (body d) ≡ true
    by true l true e same s q before = absurd (true≢false (sym (its_time allowed true l) ∙ its_time allowed false e))
    by true l false e true s q before =
        let this : c ≡ d = cc in
        rw (← this, ← (same_number_true (font_number c) number s)) ((its_rules allowed true l).late (its_time allowed true l)).1
    by true l false e false s q before = before q
    by false l true e true s q before =
        let not_yet : definition_of false number past ≡ none = rw (← (same_number_true (font_number c) number s)) (new_font allowed false e) in
        absurd (false≢true (rw not_yet at (before q)))
    by false l true e false s q before = before q
    by false l false e same s q before = before q

-- only fonts with a lawful number are defined
lawfully : {past : List Command} → PastKeeps past → (number : ℤ) → is_defined (definition_of false number past) ≡ true → lawful_font number ≡ true
lawfully no_more number t = absurd (true≢false (sym t))
lawfully (and_one {past = past} {c = c} kept allowed) number t =
    by (defines false (stage past) (kind_of_command c)) refl (same_number (font_number c) number) refl t (lawfully kept number)
  where
    by : (defining : Bool) → defines false (stage past) (kind_of_command c) ≡ defining → (same : Bool) → same_number (font_number c) number ≡ same
        → is_defined (cond (defining && same) (stands (place past) c) (definition_of false number past)) ≡ true
        → (is_defined (definition_of false number past) ≡ true → lawful_font number ≡ true) → lawful_font number ≡ true
    by true e true s t before = ap lawful_font (sym (same_number_true (font_number c) number s)) ∙ (its_rules allowed false e).number
    by true e false s t before = before t
    by false e same s t before = before t

says_there : (found : Definition) (bytes : List ℕ) → says found bytes ≡ true → is_defined found ≡ true
says_there none bytes e = e
says_there (stands at d) bytes e = refl

-- where as many fonts are defined after post as before it, they are the same
none_left_out : {past : List Command} → PastKeeps past → (bound : ℕ) → 256 ≤ bound → font_count true past ≡ font_count false past
    → (number : ℤ) → is_defined (definition_of false number past) ≡ true → is_defined (definition_of true number past) ≡ true
none_left_out {past} kept bound enough as_many number t = by (is_defined (definition_of true number past)) refl
  where
    named : pos (nat_abs number) ≡ number
    named = (lawful_in number (lawfully kept number t)).2

    -- the test with this font added to those defined after post is no wider than that before it
    wider : (n : ℕ) (this : Bool) → eqb n (nat_abs number) ≡ this → (this || has true past n) ≡ true → has false past n ≡ true
    wider n true e h = rw (eqb-true n (nat_abs number) e, named) t
    wider n false e h = let (at, d, q) = is_there (definition_of true (pos n) past) h in says_there (definition_of false (pos n) past) (body d) (agreed kept (pos n) q)

    by : (there : Bool) → is_defined (definition_of true number past) ≡ there → there ≡ true
    by true e = refl
    by false e =
        let m = nat_abs number in
        let added : ℕ → Bool = λ n. eqb n m || has true past n in
        let off : has true past m ≡ false = rw named e in
        let on : added m ≡ true = rw (eq-eqb m m refl) in
        let others : (n : ℕ) → (n ≡ m → ⊥) → added n ≡ has true past n = λ n other. rw (ne_eqb n m other) in
        let one_more = tally_more (has true past) added m bound off on others (omega (arith, (lawful_in number (lawfully kept number t)).1)) in
        let no-more-than = tally_wider added (has false past) bound (λ n l. wider n (eqb n m) refl) in
        absurd (omega (arith, one_more, no-more-than, counted true bound enough kept, counted false bound enough kept))

-- at most 64 fonts, whatever commands keep the rules
few_fonts : {past : List Command} → PastKeeps past → font_count false past ≤ 64
few_fonts no_more = omega arith
few_fonts (and_one {past = past} {c = c} kept allowed) = by (defines false (stage past) (kind_of_command c)) refl (few_fonts kept)
  where
    by : (defining : Bool) → defines false (stage past) (kind_of_command c) ≡ defining → font_count false past ≤ 64
        → cond defining (font_count false past + 1) (font_count false past) ≤ 64
    by true e h = omega (arith, ((its_rules allowed false e).early (its_time allowed false e)).1)
    by false e h = h

size_in_range : (size : ℕ) → lawful_size size ≡ true → (1 ≤ size) × (size ≤ 134217727)
size_in_range size e = let both = (and-eq-true_iff (leb 1 size) (leb size 134217727)).0 e in (leb-true 1 size both.0, leb-true size 134217727 both.1)

-- ---- the rules

module _ {cs : List Command} (keeps : Keeps cs) {past : List Command} {c : Command} (there : StandsAmong cs past c) where
  -- a font number has one byte at most and no sign (rule 3.5)
  pub number_in_range : kind_of_command c ≡ Define → (n : ℕ) × (n ≤ 255) × (font_number c ≡ pos n)
  number_in_range k = let (sign, small, named) = lawful_in (font_number c) (right (kept_there keeps there).1 k).number in (nat_abs (font_number c), omega (arith, small), sym named)

  -- there are no more than 64 fonts (rule 3.5)
  pub fonts_at_most_64 : font_count false (c ∷ past) ≤ 64
  fonts_at_most_64 = few_fonts (and_one (kept_there keeps there).0 (kept_there keeps there).1)

  -- a font's scale is in range (rules 1.5, 3.5)
  pub scale_in_range : kind_of_command c ≡ Define → (1 ≤ font_scale (body c)) × (font_scale (body c) ≤ 134217727)
  scale_in_range k = size_in_range (font_scale (body c)) (right (kept_there keeps there).1 k).scale

  -- so is its design size (rules 1.5, 3.5)
  pub design_size_in_range : kind_of_command c ≡ Define → (1 ≤ font_design_size (body c)) × (font_design_size (body c) ≤ 134217727)
  design_size_in_range k = size_in_range (font_design_size (body c)) (right (kept_there keeps there).1 k).size

  -- after post too a number is defined once (rule 3.5)
  pub defined_once_after_post : kind_of_command c ≡ Define → is_after_post (stage past) ≡ true → definition_of true (font_number c) past ≡ none
  defined_once_after_post k late = ((right (kept_there keeps there).1 k).late late).0

  -- what is defined after post was defined before it, and says the same (rule 3.5)
  pub defined_before_post : (number : ℤ) (at : ℕ) (d : Command) → definition_of true number past ≡ stands at d
      → (at_first : ℕ) × (first : Command) × (definition_of false number past ≡ stands at_first first) × (body first ≡ body d)
  defined_before_post number at d e =
      let says_so = agreed (kept_there keeps there).0 number e in
      let (at_first, first, q) = is_there _ (says_there (definition_of false number past) (body d) says_so) in
      (at_first, first, q, same_true (body first) (body d) (rw q at says_so))

  -- and the other way: up to post_post no font is left out (rule 3.5)
  pub defined_after_post : kind_of_command c ≡ PostPost → (number : ℤ) (at : ℕ) (d : Command) → definition_of false number past ≡ stands at d
      → (at_again : ℕ) × (again : Command) × (definition_of true number past ≡ stands at_again again) × (body again ≡ body d)
  defined_after_post k number at d e =
      let (kept, allowed) = kept_there keeps there in
      let as_many : font_count true past ≡ font_count false past = eqb-true _ _ (not-false _ (rw k at allowed.definition)) in
      let (at_again, again, q) = is_there _ (none_left_out kept 256 (omega arith) as_many number (ap is_defined e)) in
      (at_again, again, q, sym (same_true (body d) (body again) (subst (λ (found : Definition). says found (body again) ≡ true) e (agreed kept number q))))
