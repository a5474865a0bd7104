-- `widths::table::check_table` meets its contract. Assumes nothing.
use Prim.Native.Nat.{◌+◌, ◌≤◌}
use mathlib.Core.Path.{◌≡◌, sym, ◌∙◌}
use mathlib.Core.Bool.{true, and-eq-true_iff}
use native.Mathlib.Omega.{arith}
use lib.ListN.{length}
use Rattle.names.specs.Names.{name_size}
use Rattle.widths.specs.AsBytes.{Bytes}
use Rattle.widths.specs.Table.{width_record_size, record_at}
use Rattle.widths.specs.Steps.{key_number, reaches, lawful_block}
use Rattle.widths.proofs.SameBlocks.{same_lawful}
use Rattle.widths.proofs.TableLaws.{check_starts, check_ends, check_cut, key_right, check_key, check_rest}
use Rattle.widths.proofs.Turns.{key_tested, turned}
use Rattle.widths.proofs.table.check_table.Goals as goal
use Rattle.widths.proofs.table.check_table.Goals.{then-not-lawful_key-via-then-not-lawful_key, then-not-lawful_key-via-else-not-lawful_key+then-not-lawful_rest}

pub loop-at-init : goal.loop-at-init
loop-at-init c = (omega arith, ((omega arith, omega arith, omega arith), λ h. absurd (omega arith)), check_starts name_size c.args.table.now)

pub returns-then-not-lawful_key : goal.returns-then-not-lawful_key
returns-then-not-lawful_key c =
    let table = c.args.table.now in
    let l = c.loop-at in
    let least = key_number l.least in
    let tested : c.lawful_key.result ≡ key_right name_size table l.at least l.invariant.2 = c.lawful_key.ensures ∙ key_tested table l.at least l.invariant.2 c.key_at-key.result c.key_at-key.ensures in
    elim c.then-not-lawful_key.branch [
      | then-not-lawful_key-via-then-not-lawful_key w ↦ check_key name_size table l.at least l.invariant.2 (omega (arith, l.invariant.2.place)) (sym tested ∙ w.if-not-lawful_key.true)
      | then-not-lawful_key-via-else-not-lawful_key+then-not-lawful_rest w ↦
          check_rest name_size table l.at least l.invariant.2 (omega (arith, l.invariant.2.place))
          (sym tested ∙ w.if-not-lawful_key.false) (sym w.lawful_rest.ensures ∙ w.if-not-lawful_rest.true)
    ]

pub pass_block-run-requires : goal.pass_block-run-requires
pass_block-run-requires c =
    let table = c.args.table.now in
    let l = c.loop-at in
    let key = c.key_at-key in
    let there : l.at + width_record_size ≤ length table = omega (arith, l.invariant.2.place) in
    let reached = sym c.lawful_key.ensures ∙ c.if-not-lawful_key.false in
    let lawful : lawful_block (record_at table l.at) ≡ true = ((and-eq-true_iff (reaches key.result l.least) (lawful_block (record_at table l.at))).0 reached).1 in
    let bytes : Bytes table = λ i h. (c.type_inv.table i).fits in (
      omega arith,
      omega arith,
      (
        omega (arith, l.invariant.2.place),
        (
          (key.ensures.high_below, key.ensures.low_below, omega (arith, key.ensures.code_below)),
          λ h at' key' other is same. same_lawful table bytes at' l.at key' key.result other there is key.ensures same ∙ lawful,
        ),
        turned table l.at (key_number l.least) l.invariant.2 key.result key.ensures there reached (sym c.lawful_rest.ensures ∙ c.if-not-lawful_rest.false),
      ),
    )

pub returns-then-at-table : goal.returns-then-at-table
returns-then-at-table c =
    let l = c.loop-at in
    check_cut name_size c.args.table.now l.at (key_number l.least) l.invariant.2 (omega arith) (omega arith)

pub returns : goal.returns
returns c =
    let l = c.loop-at in
    check_ends name_size c.args.table.now l.at (key_number l.least) l.invariant.2 (omega arith)
