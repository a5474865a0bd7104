-- What becomes of a command that keeps the rules, in the opening and behind it. Assumes nothing.
use Prim.Native.Nat.{ℕ, ◌+◌}
use mathlib.Core.Path.{◌≡◌, refl, sym, ap, ◌∙◌, subst}
use mathlib.Core.Bool.{Bool, true, false, cond, ◌||◌}
use mathlib.Core.List.{List, ◌∷◌}
use mathlib.Core.Logic.{◌⊎◌, inl, inr}
use Rattle.commands.specs.declared.Kind.{Kind}
use Rattle.commands.specs.declared.Kind.TheVariants.{Bop, Eop, Define, Pre, Post, PostPost}
use Rattle.commands.specs.Kinds.{is}
use Rattle.commands.specs.Commands.{Command, kind_of_command}
use Rattle.list.specs.declared.Stage.TheVariants.{OnPage}
use Rattle.list.specs.Past.{is_a, stage, pages, defines}
use Rattle.list.specs.Rules.{Allowed}
use Rattle.cutting.specs.declared.Spot.{Spot}
use Rattle.cutting.specs.declared.Fate.{Fate}
use Rattle.cutting.specs.Chosen.{is_in}
use Rattle.cutting.specs.CutList.{opening, stays, mended, cut_after}
use Rattle.cutting.specs.Steps.{spot_after, fate_of}
use Rattle.cutting.proofs.Turning.{Turn, starts, idles, defines_early, begins, within, finishes, posts, idles_late, defines_again, ends, turn_of}
use Rattle.cutting.proofs.Standing.{Stands, next_chosen_lem}

-- the kinds that are mended
abbrev pub IsMended : Kind → Type 0
IsMended kind = (kind ≡ Bop) ⊎ ((kind ≡ Post) ⊎ (kind ≡ PostPost))

module _ (first : List Command) (list : List ℕ) where
  -- what a fate means
  abbrev pub Becomes : List Command → Command → Fate → Type 0
  Becomes past c Fate.Opening = (opening (c ∷ past) ≡ c ∷ opening past) × (cut_after first (is_in list) (c ∷ past) ≡ cut_after first (is_in list) past)
  Becomes past c Fate.Copied = (opening (c ∷ past) ≡ opening past) × (cut_after first (is_in list) (c ∷ past) ≡ c ∷ cut_after first (is_in list) past) × (is_a Bop c ≡ false) × (is_a Post c ≡ false)
  Becomes past c Fate.Mended =
      (opening (c ∷ past) ≡ opening past)
      × (cut_after first (is_in list) (c ∷ past) ≡ mended (cut_after first (is_in list) past) c ∷ cut_after first (is_in list) past)
      × IsMended (kind_of_command c)
  Becomes past c Fate.Dropped = (opening (c ∷ past) ≡ opening past) × (cut_after first (is_in list) (c ∷ past) ≡ cut_after first (is_in list) past)

  module _ (past : List Command) (c : Command) where
    abbrev new : List Command
    new = cut_after first (is_in list) past

    -- by the two tests that the definitions make
    joins : (is_a Pre c || defines false (stage past) (kind_of_command c)) ≡ true → stays (is_in list) past c ≡ false → Becomes past c Fate.Opening
    joins o t = (ap (λ (b : Bool). cond b (c ∷ opening past) (opening past)) o, ap (λ (b : Bool). cond b (mended new c ∷ new) new) t)

    goes : (is_a Pre c || defines false (stage past) (kind_of_command c)) ≡ false → stays (is_in list) past c ≡ false → Becomes past c Fate.Dropped
    goes o t = (ap (λ (b : Bool). cond b (c ∷ opening past) (opening past)) o, ap (λ (b : Bool). cond b (mended new c ∷ new) new) t)

    is_mended : (is_a Pre c || defines false (stage past) (kind_of_command c)) ≡ false → stays (is_in list) past c ≡ true → IsMended (kind_of_command c) → Becomes past c Fate.Mended
    is_mended o t kind = (ap (λ (b : Bool). cond b (c ∷ opening past) (opening past)) o, ap (λ (b : Bool). cond b (mended new c ∷ new) new) t, kind)

    is_copied : (is_a Pre c || defines false (stage past) (kind_of_command c)) ≡ false → stays (is_in list) past c ≡ true
        → is_a Bop c ≡ false → is_a Post c ≡ false → is_a PostPost c ≡ false → Becomes past c Fate.Copied
    is_copied o t bop post end =
        let same : mended new c ≡ c = rw (bop, post, end) refl in (
          ap (λ (b : Bool). cond b (c ∷ opening past) (opening past)) o,
          ap (λ (b : Bool). cond b (mended new c ∷ new) new) t ∙ ap (λ (d : Command). d ∷ new) same,
          bop,
          post,
        )

  module _ {past : List Command} {c : Command} {p : Spot} (allowed : Allowed past c) (s : Stands list past p) where
    abbrev fate : Fate
    fate = fate_of (kind_of_command c) (spot_after list (kind_of_command c) p).here p

    -- a command of a page
    on_page : stage past ≡ OnPage → is (kind_of_command c) Bop ≡ false → is (kind_of_command c) Pre ≡ false → is (kind_of_command c) Post ≡ false
        → is (kind_of_command c) PostPost ≡ false → Becomes past c fate
    on_page at bop pre post end = by (is (kind_of_command c) Define) refl (is_in list (pages past)) refl
      where
        on : p.on ≡ true
        on = s.on_is ∙ rw at refl

        late : p.late ≡ false
        late = s.late_is ∙ rw at refl

        still : (eop : Bool) → (cond {A = Spot} eop (record { pages = p.pages; met = p.met; on = false; here = p.here; late = p.late }) p).here ≡ p.here
        still true = refl
        still false = refl

        here : (spot_after list (kind_of_command c) p).here ≡ is_in list (pages past)
        here = rw (bop, post) (still (is (kind_of_command c) Eop) ∙ s.here_is)

        at_fate : (define chosen : Bool) → is (kind_of_command c) Define ≡ define → is_in list (pages past) ≡ chosen
            → fate ≡ cond define Fate.Opening (cond chosen Fate.Copied Fate.Dropped)
        at_fate define chosen d h = rw (here, h, bop, post, end, pre, d, late, on) refl

        by : (define : Bool) → is (kind_of_command c) Define ≡ define → (chosen : Bool) → is_in list (pages past) ≡ chosen → Becomes past c fate
        by true d true h = subst (Becomes past c) (sym (at_fate true true d h)) (joins past c (rw (pre, d, at) refl) (rw (bop, at, d, h) refl))
        by true d false h = subst (Becomes past c) (sym (at_fate true false d h)) (joins past c (rw (pre, d, at) refl) (rw (bop, at, d, h) refl))
        by false d true h = subst (Becomes past c) (sym (at_fate false true d h)) (is_copied past c (rw (pre, d) refl) (rw (bop, at, d, h) refl) bop post end)
        by false d false h = subst (Becomes past c) (sym (at_fate false false d h)) (goes past c (rw (pre, d) refl) (rw (bop, at, d, h) refl))

    -- a page begins
    begun : kind_of_command c ≡ Bop → Becomes past c fate
    begun k = by (is_in list (pages past + 1)) refl
      where
        at_fate : (chosen : Bool) → is_in list (pages past + 1) ≡ chosen → fate ≡ cond chosen Fate.Mended Fate.Dropped
        at_fate chosen h = rw (k, next_chosen_lem allowed s, h) refl

        by : (chosen : Bool) → is_in list (pages past + 1) ≡ chosen → Becomes past c fate
        by true h = subst (Becomes past c) (sym (at_fate true h)) (is_mended past c (rw k refl) (rw (k, h) refl) (inl k))
        by false h = subst (Becomes past c) (sym (at_fate false h)) (goes past c (rw k refl) (rw (k, h) refl))

    -- the fate of a command is what becomes of it
    pub becomes : Becomes past c fate
    becomes = by (turn_of allowed)
      where
        by : Turn (stage past) (kind_of_command c) → Becomes past c fate
        by (starts at k) =
            let is_fate : fate ≡ Fate.Opening = rw k refl in
            subst (Becomes past c) (sym is_fate) (joins past c (rw k refl) (rw (k, at) refl))
        by (idles out k) =
            let off : p.on ≡ false = s.on_is ∙ out.closed in
            let is_fate : fate ≡ Fate.Dropped = rw (k, off) refl in
            subst (Becomes past c) (sym is_fate) (goes past c (rw k refl) (rw (k, out.closed, out.early) refl))
        by (defines_early out k) =
            let early : p.late ≡ false = s.late_is ∙ out.early in
            let is_fate : fate ≡ Fate.Opening = rw (k, early) refl in
            subst (Becomes past c) (sym is_fate) (joins past c (rw (k, out.early) refl) (rw (k, out.closed, out.early) refl))
        by (begins out k) = begun k
        by (within at inner) = on_page at inner.no_bop inner.no_pre inner.no_post inner.no_end
        by (finishes at k) = on_page at (rw k refl) (rw k refl) (rw k refl) (rw k refl)
        by (posts at k) =
            let is_fate : fate ≡ Fate.Mended = rw k refl in
            subst (Becomes past c) (sym is_fate) (is_mended past c (rw k refl) (rw (k, at) refl) (inr (inl k)))
        by (idles_late at k) =
            let off : p.on ≡ false = s.on_is ∙ rw at refl in
            let is_fate : fate ≡ Fate.Dropped = rw (k, off) refl in
            subst (Becomes past c) (sym is_fate) (goes past c (rw k refl) (rw (k, at) refl))
        by (defines_again at k) =
            let late : p.late ≡ true = s.late_is ∙ rw at refl in
            let is_fate : fate ≡ Fate.Copied = rw (k, late) refl in
            subst (Becomes past c) (sym is_fate) (is_copied past c (rw (k, at) refl) (rw (k, at) refl) (rw k refl) (rw k refl) (rw k refl))
        by (ends at k) =
            let is_fate : fate ≡ Fate.Mended = rw k refl in
            subst (Becomes past c) (sym is_fate) (is_mended past c (rw k refl) (rw (k, at) refl) (inr (inr k)))
