-- `converting::old::check_old` meets its contract. Assumes nothing.
use Prim.Native.Nat.{ℕ, ◌+◌, ◌*◌, ◌%◌, ◌^◌}
use mathlib.Core.Path.{◌≡◌, sym, ap, ap₂, subst, ◌∙◌}
use mathlib.Core.Bool.{Bool, true, not, ◌&&◌, and-eq-true_iff, and-true}
use mathlib.Core.List.{List}
use native.Mathlib.Omega.{arith}
use lib.Dec.{ltb}
use Rattle.numbers.specs.Bytes.{unsigned_at}
use Rattle.numbers.specs.Sizes.{lawful_size}
use Rattle.numbers.proofs.Bytes.{unsigned_more, unsigned_join}
use Rattle.widths.specs.Table.{old_record_size, record_in}
use Rattle.widths.specs.Steps.{Checking}
use Rattle.widths.proofs.TableLaws.{check_starts, check_ends, check_cut, here, key_right, check_key, check_rest, check_turns}
use Rattle.converting.specs.declared.old.OldKey.{OldKey}
use Rattle.converting.specs.Steps.{old_key_number, OldKeyAt, old_reaches}
use Rattle.converting.proofs.old.check_old.Goals as goal
use Rattle.converting.proofs.old.check_old.Goals.{then-not-lawful_key-via-then-not-lawful_key, then-not-lawful_key-via-else-not-lawful_key+then-not-lawful_rest}

-- the key as the code has it is the number of its nine bytes
old-key-is : (table : List ℕ) (index : ℕ) (k : OldKey) → OldKeyAt table (index * old_record_size) k → old_key_number k ≡ (record_in 0 table index).key
unfolding record_in
old-key-is table index k h =
    let at = index * old_record_size in
    ap₂ (λ (head code : ℕ). head * 256 + code) (h.head_is ∙ sym (unsigned_join table at 4 4)) h.code_is ∙ sym (unsigned_more table at 8)

module _ (table : List ℕ) (at least : ℕ) (checking : Checking 0 table at least) (key : OldKey) (is : OldKeyAt table at key) where
  -- the key that was read is that of the record
  key-here : old_key_number key ≡ here 0 table at least checking
  key-here = old-key-is table checking.index key (subst (λ (n : ℕ). OldKeyAt table n key) checking.place is)

  -- the test of the key, on the record's own
  key-tested : (not (ltb (old_key_number key) least) && lawful_size (key.head % 2 ^ 32)) ≡ key_right 0 table at least checking
  key-tested =
      let scale_is : key.head % 2 ^ 32 ≡ unsigned_at table (at + 4) 4 = omega (arith, is.head_is, is.scale_below) in
      ap₂ (λ (n scale : ℕ). not (ltb n least) && lawful_size scale) key-here scale_is
      ∙ ap (λ (t : Bool). not (ltb (here 0 table at least checking) least) && t) (sym (and-true (lawful_size (unsigned_at table (at + 4) 4))))

pub loop-at-init : goal.loop-at-init
loop-at-init c = (omega arith, (omega arith, λ h. absurd (omega arith)), check_starts 0 c.args.table.now)

pub returns-then-not-lawful_key : goal.returns-then-not-lawful_key
returns-then-not-lawful_key c =
    let table = c.args.table.now in
    let l = c.loop-at in
    let inv = l.invariant.2 in
    let least = old_key_number l.least in
    let key = c.key_at-key in
    let tested : c.lawful_key.result ≡ key_right 0 table l.at least inv = c.lawful_key.ensures ∙ key-tested table l.at least inv key.result key.ensures in
    elim c.then-not-lawful_key.branch [
      | then-not-lawful_key-via-then-not-lawful_key w ↦ check_key 0 table l.at least inv (omega (arith, inv.place)) (sym tested ∙ w.if-not-lawful_key.true)
      | then-not-lawful_key-via-else-not-lawful_key+then-not-lawful_rest w ↦
          check_rest 0 table l.at least inv (omega (arith, inv.place)) (sym tested ∙ w.if-not-lawful_key.false) (sym w.lawful_rest.ensures ∙ w.if-not-lawful_rest.true)
    ]

pub loop-at-preserved : goal.loop-at-preserved
loop-at-preserved c =
    let table = c.args.table.now in
    let l = c.loop-at in
    let inv = l.invariant.2 in
    let least = old_key_number l.least in
    let key = c.key_at-key in
    let here-is : old_key_number key.result ≡ here 0 table l.at least inv = key-here table l.at least inv key.result key.ensures in
    let tested : c.lawful_key.result ≡ key_right 0 table l.at least inv = c.lawful_key.ensures ∙ key-tested table l.at least inv key.result key.ensures in
    let right : key_right 0 table l.at least inv ≡ true = sym tested ∙ c.if-not-lawful_key.false in
    let lawful : lawful_size (key.result.head % 2 ^ 32) ≡ true = ((and-eq-true_iff (old_reaches key.result l.least) (lawful_size (key.result.head % 2 ^ 32))).0 (sym c.lawful_key.ensures ∙ c.if-not-lawful_key.false)).1 in
    let next = check_turns 0 table l.at least inv (omega (arith, inv.place)) right (sym c.lawful_rest.ensures ∙ c.if-not-lawful_rest.false) in
    let e : here 0 table l.at least inv + 1 ≡ key.result.head * 256 + (key.result.code + 1) = omega (arith, here-is) in
    (omega (arith, inv.place), (omega (arith, key.ensures.code_below), λ h. lawful), subst (Checking 0 table (l.at + old_record_size)) e next)

pub returns-then-at-table : goal.returns-then-at-table
returns-then-at-table c =
    let l = c.loop-at in
    check_cut 0 c.args.table.now l.at (old_key_number l.least) l.invariant.2 (omega arith) (omega arith)

pub returns : goal.returns
returns c =
    let l = c.loop-at in
    check_ends 0 c.args.table.now l.at (old_key_number l.least) l.invariant.2 (omega arith)
