-- In a right table the first record whose key is not below a character's is what the plain walk finds. Assumes nothing.
use mathlib.Core.Path.{◌≡◌, refl, sym, subst, ◌∙◌}
use mathlib.Core.Logic.{⊎_elim}
use mathlib.Core.Bool.{Bool, true, false}
use mathlib.Core.List.{List}
use Prim.Native.Nat.{ℕ, zero, suc, ◌+◌, ◌*◌, ◌≤◌, ◌<◌}
use native.Mathlib.Nat.{eq-or-lt_of_le}
use native.Mathlib.Omega.{arith}
use Rattle.refusals.specs.Answer.{given}
use Rattle.widths.specs.declared.table.Key.{Key}
use Rattle.names.specs.Names.{name_size}
use Rattle.widths.specs.Table.{width_record_size, record_of, checked_table}
use Rattle.widths.specs.LookUp.{LookUp, found, absent, metric_of, is_for, walk_from, walk, or_else}
use Rattle.widths.specs.Steps.{key_number, KeyIs, KeyAt, FirstNotBelow}
use Rattle.numbers.proofs.Radix.{less_or_not}
use Rattle.widths.proofs.Keys.{character_key, key_number_lem, key_is, for_key, key_for}
use Rattle.widths.proofs.TableLaws.{keys_rise}

-- a number that is below another is not the same
below_not_same : {a b : ℕ} → a < b → a ≡ b → ⊥
below_not_same h e = omega arith

-- nor is one that is above a number which reaches it
past_not_same : {a b c : ℕ} → a ≤ b → b < c → c ≡ a → ⊥
past_not_same reach h e = omega arith

-- ---- the plain walk

module _ (table : List ℕ) (checksum scale name byte : ℕ) where
  -- the record of an index has not the character's key
  abbrev Other : ℕ → Type 0
  Other index = (record_of table index).key ≡ character_key checksum scale name byte → ⊥

  not_for_by : (index : ℕ) (outcome : Bool) → is_for (record_of table index) checksum scale name byte ≡ outcome → Other index → outcome ≡ false
  not_for_by index true e other = absurd (other (for_key table index checksum scale name byte e))
  not_for_by index false e other = refl

  not_for : (index : ℕ) → Other index → is_for (record_of table index) checksum scale name byte ≡ false
  not_for index other = not_for_by index (is_for (record_of table index) checksum scale name byte) refl other

  misses : (left index : ℕ) → ((j : ℕ) → index ≤ j → j < index + left → Other j) → walk_from name_size left table index checksum scale name byte ≡ absent
  unfolding walk_from
  misses zero index others = refl
  misses (suc left) index others =
      rw (not_for index (others index (omega arith) (omega arith)))
      (misses left (suc index) (λ j low high. others j (omega arith) (omega arith)))

  hits : (left index hit : ℕ) → index ≤ hit → hit < index + left → ((j : ℕ) → index ≤ j → j < hit → Other j) → is_for (record_of table hit) checksum scale name byte ≡ true
      → walk_from name_size left table index checksum scale name byte ≡ found (metric_of (record_of table hit))
  unfolding walk_from
  hits zero index hit low high others e = absurd (omega arith)
  hits (suc left) index hit low high others e =
      ⊎_elim (λ (same : index ≡ hit). rw same (rw e))
      (λ (past : index < hit). rw (not_for index (others index (omega arith) past)) (hits left (suc index) hit past (omega arith) (λ j l h. others j (omega arith) h) e))
      (eq-or-lt_of_le low)

-- ---- in a right table

module _ (table : List ℕ) (records : ℕ) (judged : checked_table table ≡ given records) where
  module _ (checksum scale name byte : ℕ) where
    -- a record with the character's key is the one that the walk finds
    pub walk_finds : (index : ℕ) (k sought : Key) → index < records → KeyAt table (index * width_record_size) k → KeyIs checksum scale name byte sought → key_number k ≡ key_number sought
        → found (metric_of (record_of table index)) ≡ walk records table checksum scale name byte
    walk_finds index k sought inside h is e =
        let here : (record_of table index).key ≡ character_key checksum scale name byte = sym (key_is table index k h) ∙ e ∙ key_number_lem checksum scale name byte sought is in
        sym (hits table checksum scale name byte records 0 index (omega arith) (omega arith)
        (λ j low high same. absurd (below_not_same (keys_rise name_size table records judged j index high inside) (same ∙ sym here)))
        (key_for table index checksum scale name byte k sought h is e))

    -- a record that is for a character is the one that the walk finds
    pub own_found : (index : ℕ) → index < records → is_for (record_of table index) checksum scale name byte ≡ true → walk records table checksum scale name byte ≡ found (metric_of (record_of table index))
    own_found index inside is =
        hits table checksum scale name byte records 0 index (omega arith) (omega arith)
        (λ j low high same. below_not_same (keys_rise name_size table records judged j index high inside) (same ∙ sym (for_key table index checksum scale name byte is))) is

    -- no record has the character's key where it is not in the first whose key is not below it
    pub walk_misses : (index : ℕ) → FirstNotBelow table records (character_key checksum scale name byte) index → (index < records → (record_of table index).key ≡ character_key checksum scale name byte → ⊥)
        → absent ≡ walk records table checksum scale name byte
    walk_misses index first other =
        sym (misses table checksum scale name byte records 0 (λ j low high e.
        ⊎_elim (λ (under : j < index). absurd (below_not_same (first.below j under) e))
        (λ (over : index ≤ j). ⊎_elim (λ (same : index ≡ j). other (omega arith) (subst (λ (n : ℕ). (record_of table n).key ≡ character_key checksum scale name byte) (sym same) e))
        (λ (past : index < j). absurd (past_not_same (first.above index (omega arith) (omega arith)) (keys_rise name_size table records judged index j past (omega arith)) e))
        (eq-or-lt_of_le over))
        (less_or_not j index)))

-- either way the same was found
pub or_same : (l : LookUp) → or_else l l ≡ l
or_same (found m) = refl
or_same absent = refl

-- ---- what a search has found so far

module _ (table : List ℕ) (records key : ℕ) where
  -- the first is not before `low` nor behind `high`
  pub record Between (low high : ℕ) : Type 0 where
    pub order : low ≤ high
    pub top : high ≤ records
    pub below : (j : ℕ) → j < low → (record_of table j).key < key
    pub above : (j : ℕ) → high ≤ j → j < records → key ≤ (record_of table j).key

  pub search_ends : (low high : ℕ) → Between low high → high ≤ low → FirstNotBelow table records key low
  search_ends low high b h =
      let e : high ≡ low = omega (arith, b.order) in
      record { bound = omega (arith, b.top); below = b.below; above = rw e at b.above }
