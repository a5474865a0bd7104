-- `widths::table::pass_block` meets its contract: a record of the same check sum, scale and name is right where its code reaches and its rest is right. Assumes nothing.
use mathlib.Core.Path.{◌≡◌, sym, subst, ◌∙◌}
use Prim.Native.Nat.{ℕ, ◌+◌, ◌*◌, ◌≤◌}
use native.Mathlib.Omega.{arith}
use lib.ListN.{length}
use borrow.Author.Tests.{eqb-true}
use Rattle.names.specs.Names.{name_size}
use Rattle.widths.specs.Table.{width_record_size}
use Rattle.widths.specs.Steps.{block_number, key_number, Checking, with_code}
use Rattle.widths.proofs.Keys.{in_key, code_reaches}
use Rattle.widths.proofs.Turns.{turned, reached_in_block}
use Rattle.widths.proofs.table.pass_block.Goals as goal

pub loop-at-preserved : goal.loop-at-preserved
loop-at-preserved c =
    let table = c.args.table.now in
    let least = c.args.least in
    let l = c.loop-at in
    let key = c.key_at-key in
    let inside : l.at + width_record_size ≤ length table = omega (arith, l.invariant.1.2.place) in
    let same : block_number key.result ≡ block_number least = eqb-true (block_number key.result) (block_number least) (sym c.same_block.ensures ∙ c.if-not-same_block.false) in
    let reach : l.code ≤ key.result.code = omega arith in
    let judged = l.invariant.1.1 in
    let lawful = judged.1 (omega (arith, key.ensures.code_below)) l.at key.result inside key.ensures same in
    let right = reached_in_block key.result (with_code least l.code) same key.ensures.code_below reach _ lawful
    (code_reaches key.result (with_code least l.code) (in_key key.ensures) judged.0 key.ensures.code_below same) in
    let next = turned table l.at (key_number (with_code least l.code)) l.invariant.1.2 key.result key.ensures inside right (sym c.lawful_rest.ensures ∙ c.if-not-lawful_rest.false) in (
      omega arith,
      (
        omega (arith, l.invariant.1.2.place),
        (
          (judged.0.0, judged.0.1, omega (arith, key.ensures.code_below)),
          λ h at' key' there is e. judged.1 (omega (arith, key.ensures.code_below)) at' key' there is e,
        ),
        subst (λ (block : ℕ). Checking name_size table (l.at + width_record_size) (block * 256 + (key.result.code + 1))) same next,
      ),
    )
