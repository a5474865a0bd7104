-- `widths::table::Widths::find_key` meets its contract: in a right table the first record that is not below the key has it, or none has. Assumes nothing.
use Prim.Native.Nat.{ℕ, ◌<◌}
use mathlib.Core.Path.{◌≡◌, sym, subst, ◌∙◌}
use native.Mathlib.Omega.{arith}
use borrow.Author.Tests.{eqb-true, eqb-false}
use lib.Dec.{eqb}
use mathlib.Core.Bool.{Bool}
use mathlib.Core.List.{List}
use Rattle.widths.specs.contracts.table.KeyPartialEq.TheImpl.{eq-value}
use Rattle.widths.specs.declared.table.Key.{Key}
use Rattle.widths.specs.Steps.{key_number, InKey, KeyAt, FirstNotBelow}
use Rattle.widths.proofs.Keys.{in_key, key_is, key_number_lem}
use Rattle.widths.proofs.KeyOrder.{same_number}
use Rattle.widths.proofs.Search.{walk_finds, walk_misses}
use Rattle.widths.proofs.table.Widths.find_key.Goals as goal
use Rattle.widths.proofs.table.Widths.find_key.Goals.{else-index-self-via-then-index-self+else-eq, else-index-self-via-else-index-self}

-- what the test of the first record's key says
tested : (table : List ℕ) (at place : ℕ) (k key : Key) {same : Bool} → KeyAt table at k → at ≡ place → InKey key → key.code < 256 → same ≡ eq-value.it k key
    → KeyAt table place k × (same ≡ eqb (key_number k) (key_number key))
tested table _ place k key is at in_key' small test = (subst (λ (n : ℕ). KeyAt table n k) at is, test ∙ same_number k key (in_key is) in_key' is.code_below small)

pub returns-then-eq : goal.returns-then-eq
returns-then-eq c = (
  λ checksum scale name byte is.
      let test = tested c.args.self.bytes.now _ _ c.key_at.result c.args.key c.key_at.ensures c.place_of.ensures.place c.requires.in_key.0 c.requires.in_key.1 c.eq.ensures in
      walk_finds c.args.self.bytes.now c.args.self.records c.args.self.right checksum scale name byte c.first_not_below-index.result c.key_at.result c.args.key c.if-index-self.true test.0 is
      (eqb-true (key_number c.key_at.result) (key_number c.args.key) (sym test.1 ∙ c.if-eq.true)),
  c.if-index-self.true,
)

pub returns : goal.returns
returns c = (
  λ checksum scale name byte is.
      let table = c.args.self.bytes.now in
      let first = c.first_not_below-index in
      let number = key_number_lem checksum scale name byte c.args.key is in
      walk_misses table c.args.self.records c.args.self.right checksum scale name byte first.result
      (subst (λ (n : ℕ). FirstNotBelow table c.args.self.records n first.result) number first.ensures)
      (elim c.else-index-self.branch [
        | else-index-self-via-then-index-self+else-eq w ↦
            let test = tested c.args.self.bytes.now _ _ w.key_at.result c.args.key w.key_at.ensures w.place_of.ensures.place c.requires.in_key.0 c.requires.in_key.1 w.eq.ensures in
            λ h e. eqb-false (key_number w.key_at.result) (key_number c.args.key) (sym test.1 ∙ w.if-eq.false) (key_is table first.result w.key_at.result test.0 ∙ e ∙ sym number)
        | else-index-self-via-else-index-self w ↦ λ h e. absurd (omega (arith, w.if-index-self.false))
      ]),
  tt,
)
