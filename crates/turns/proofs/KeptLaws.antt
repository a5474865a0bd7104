-- What is kept for a font is enough for the search of its characters: that it is there is known, and each fact that is asked of it has one proof. Assumes nothing.
use mathlib.Core.Path.{◌≡◌, refl}
use mathlib.Core.Logic.{◌⊎◌, inl, inr, ∥∥₁_elim}
use Prim.Native.Nat.{ℕ}
use lib.IntN.{ℤ}
use base.Stored.{coded_unit}
use Rattle.std.specs.Coded.{Coded, Coded-set, code_by, coded_ℕ, coded_ℤ, coded×, coded⊎, ×_prop, le_prop}
use Rattle.std.specs.declared.option.Option.{Option}
use Rattle.names.specs.Names.{name_number}
use Rattle.scaling.specs.Steps.{sixteenfold_of}
use Rattle.state.specs.declared.Font.{Font}
use Rattle.turns.specs.declared.Kept.{Kept}
use Rattle.turns.specs.Steps.{KeptFor}
use Rattle.widths.specs.LookUp.{LookUp, found, absent, looked_for}
use Rattle.widths.specs.Steps.{Within, found_at, FoundIn}
use Rattle.widths.specs.declared.table.Widths.{Widths}
use Rattle.widths.proofs.BlockSearch.{in_order}

-- ---- an equation of look-ups has one proof

abbrev split : LookUp → Unit {0} ⊎ (ℤ × (ℕ × (ℕ × (ℕ × ℕ))))
split absent = inl tt
split (found m) = inr (m.escapement, (m.width.b0, (m.width.b1, (m.width.b2, m.width.b3))))

abbrev join : Unit {0} ⊎ (ℤ × (ℕ × (ℕ × (ℕ × ℕ)))) → LookUp
join (inl none) = absent
join (inr t) = found (record { escapement = t.0; width = record { b0 = t.1.0; b1 = t.1.1.0; b2 = t.1.1.1.0; b3 = t.1.1.1.1 } })

join_split : (l : LookUp) → join (split l) ≡ l
join_split absent = refl
join_split (found m) = refl

abbrev look_up_code : Coded LookUp
look_up_code =
    code_by (Unit {0} ⊎ (ℤ × (ℕ × (ℕ × (ℕ × ℕ))))) (coded⊎ coded_unit (coded× coded_ℤ (coded× coded_ℕ (coded× coded_ℕ (coded× coded_ℕ coded_ℕ))))) split join join_split

-- ---- what a search needs of it, and what it gives

module _ {widths : Widths} {font : Font} {kept : Kept} (keeps : ∥ KeptFor widths font kept ∥₁) where
  pub sixteenfold_is : kept.sixteenfold ≡ sixteenfold_of font.scale
  sixteenfold_is = ∥∥₁_elim keeps (Coded-set coded_ℕ kept.sixteenfold (sixteenfold_of font.scale)) (λ k. k.sixteenfold_is)

  pub own_within : Within widths.records kept.own
  own_within = ∥∥₁_elim keeps (×_prop le_prop le_prop) (λ k. in_order k.own_is)

  pub any_within : Within widths.records kept.any
  any_within = ∥∥₁_elim keeps (×_prop le_prop le_prop) (λ k. in_order k.any_is)

  -- the search finds what is found for the font's character
  pub finds : (byte : ℕ) (r : Option ℕ) → FoundIn widths.bytes.now widths.records kept.own kept.any byte r
      → found_at widths.bytes.now r ≡ looked_for widths.records widths.bytes.now font.checksum font.scale (name_number font.name) byte
  finds byte r sought =
      ∥∥₁_elim keeps (Coded-set look_up_code (found_at widths.bytes.now r) (looked_for widths.records widths.bytes.now font.checksum font.scale (name_number font.name) byte))
      (λ k. sought font.checksum font.scale (name_number font.name) k.own_is k.any_is)
