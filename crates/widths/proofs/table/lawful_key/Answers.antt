-- `widths::table::lawful_key` meets its contract. Assumes nothing.
use Rattle.widths.proofs.Keys.{in_key, code_reaches}
use Rattle.widths.proofs.KeyOrder.{below_number}
use Rattle.widths.specs.Steps.{block_number, key_number, KeyAt, reaches, LeastKey, lawful_block}
use Rattle.widths.specs.Table.{record_at}
use Rattle.widths.specs.declared.table.Key.{Key}
use Rattle.names.specs.Names.{name_then_zeros}
use Rattle.numbers.specs.Sizes.{lawful_size}
use borrow.Author.Tests.{leb-true, leb-false, lt-ltb, le-ltb, eqb-true}
use lib.ListN.{length, take, drop}
use lib.Dec.{ltb, leb}
use native.Mathlib.Omega.{arith}
use Prim.Native.Nat.{ℕ, ◌+◌, ◌-◌, ◌%◌, ◌^◌, ◌≤◌}
use mathlib.Core.List.{List}
use mathlib.Core.Bool.{Bool, true, false, not, ◌&&◌}
use mathlib.Core.Path.{◌≡◌, refl, sym, ap, ◌∙◌}
use Rattle.widths.proofs.table.lawful_key.Goals as goal

-- where check sum, scale and name are those of the key before, the codes decide, and the record's scale and name are lawful
by_code : (table : List ℕ) (at : ℕ) (key least : Key) → at + 32 ≤ length table → KeyAt table at key → LeastKey table least → block_number key ≡ block_number least
    → leb least.code key.code ≡ (reaches key least && lawful_block (record_at table at))
by_code table at key least inside is least-is same = by (leb least.code key.code) refl
  where
    by : (reached : Bool) → leb least.code key.code ≡ reached → reached ≡ (reaches key least && lawful_block (record_at table at))
    by true q =
        let enough : least.code ≤ key.code = leb-true least.code key.code q in
        let lawful : lawful_block (record_at table at) ≡ true = least-is.1 (omega (arith, is.code_below)) at key inside is same in
        simp (sym (code_reaches key least (in_key is) least-is.0 is.code_below same) ∙ le-ltb key.code least.code enough, lawful)
    by false q =
        simp (sym (code_reaches key least (in_key is) least-is.0 is.code_below same) ∙ lt-ltb key.code least.code (leb-false least.code key.code q))

-- a key that is not below the least reaches it, and its scale is that of its head
past-least : (table : List ℕ) (at : ℕ) (key least : Key) → KeyAt table at key → ltb (key_number key) (key_number least) ≡ false
    → (reaches key least && lawful_block (record_at table at)) ≡ (lawful_size (key.head % 2 ^ 32) && name_then_zeros (record_at table at).name_bytes)
past-least table at key least is not_below =
    let scale_is : (record_at table at).scale ≡ key.head % 2 ^ 32 = omega (arith, is.head_is, is.scale_below) in
    ap (λ (t : Bool). not t && lawful_block (record_at table at)) not_below ∙ ap (λ (n : ℕ). lawful_size n && name_then_zeros (record_at table at).name_bytes) scale_is

pub returns-then-same_block : goal.returns-then-same_block
returns-then-same_block c =
    by_code c.args.table.now c.args.at c.args.key c.args.least c.requires.0 c.requires.1 c.requires.2
    (eqb-true (block_number c.args.key) (block_number c.args.least) (sym c.same_block.ensures ∙ c.if-same_block.true))

pub returns-then-lawful_size : goal.returns-then-lawful_size
returns-then-lawful_size c =
    let table = c.args.table.now in
    let at = c.args.at in
    let sixteen : at + 24 - (at + 8) ≡ 16 = omega arith in
    let below = c.lt.ensures ∙ below_number c.args.key c.args.least (in_key c.requires.1) c.requires.2.0 c.requires.1.code_below in
    sym (past-least table at c.args.key c.args.least c.requires.1 (sym below ∙ c.if-lt.false)
    ∙ ap (λ (t : Bool). t && name_then_zeros (record_at table at).name_bytes) (sym c.lawful_size.ensures ∙ c.if-lawful_size.true)
    ∙ sym (c.lawful_name.ensures ∙ ap (λ (n : ℕ). name_then_zeros (take n (drop (at + 8) table))) sixteen))
