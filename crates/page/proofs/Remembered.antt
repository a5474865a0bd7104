-- The fonts that a walk remembers: at first none, and each slot keeps a font with what is right for it. Assumes nothing.
use mathlib.Core.Path.{refl, sym, subst, ◌∙◌}
use mathlib.Core.List.{List, [], ◌∷◌}
use Prim.Native.Nat.{ℕ, zero, suc, ◌<◌}
use native.Mathlib.Omega.{arith}
use lib.ListN.{length, get_or, set, replicate, length-set, length-replicate, get_or-replicate}
use lib.IntN.{negsuc}
use Rattle.widths.specs.declared.table.Widths.{Widths}
use Rattle.scaling.proofs.OneDivision.{sixteenfold_none}
use Rattle.widths.proofs.BlockSearch.{no_records}
use Rattle.state.specs.Registers.{unselected}
use Rattle.page.specs.declared.Seen.{Seen}
use Rattle.turns.specs.Steps.{KeptFor}
use Rattle.page.specs.Steps.{SeenIs, zero_seen, AllSeen}
use Rattle.page.proofs.FontLaws.{unselected_known, no_definition}

-- ---- what holds in every place of a list

module _ {A : Type 0} (P : A → Type 0) (d : A) where
  -- so it does where one place is set to what it holds of
  set_all : (l : List A) (i : ℕ) (a : A) → P a → ((j : ℕ) → j < length l → P (get_or l j d)) → (j : ℕ) → j < length (set l i a) → P (get_or (set l i a) j d)
  set_all [] i a here all j inside = all j inside
  set_all (x ∷ l) zero a here all zero inside = here
  set_all (x ∷ l) zero a here all (suc j) inside = all (suc j) inside
  set_all (x ∷ l) (suc i) a here all zero inside = all zero (omega arith)
  set_all (x ∷ l) (suc i) a here all (suc j) inside = set_all l i a here (λ k h. all (suc k) (omega arith)) j (omega arith)

-- ---- fonts

-- no font, by a number that none has
abbrev none_seen : Seen
none_seen = record { number = negsuc 0; font = unselected; kept = zero_seen.kept }

-- before a font is selected nothing is found
pub none_kept : (widths : Widths) → KeptFor widths unselected zero_seen.kept
none_kept widths =
    let none = no_records widths.bytes.now widths.records widths.right in record { sixteenfold_is = sym sixteenfold_none; own_is = none; any_is = none }

module _ (file fonts : List ℕ) (widths : Widths) where
  none_seen_lem : SeenIs file fonts widths none_seen
  none_seen_lem = (λ past told. (no_definition told (negsuc 0) refl, unselected_known), none_kept widths)

  pub nothing_seen : AllSeen file fonts widths (replicate 64 none_seen)
  nothing_seen = (
    length-replicate 64 none_seen,
    λ place inside. subst (SeenIs file fonts widths) (sym (get_or-replicate 64 place none_seen zero_seen (omega (arith, inside, length-replicate 64 none_seen)))) none_seen_lem,
  )

  pub seen_stored : (seen : List Seen) (place : ℕ) (x : Seen) → SeenIs file fonts widths x → AllSeen file fonts widths seen → AllSeen file fonts widths (set seen place x)
  seen_stored seen place x is all = (length-set seen place x ∙ all.0, set_all (SeenIs file fonts widths) zero_seen seen place x is all.1)
