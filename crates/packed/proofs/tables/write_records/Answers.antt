-- `packed::tables::write_records` meets its contract. Assumes nothing.
use Prim.Native.Nat.{ℕ, ◌+◌}
use mathlib.Core.Path.{sym, subst, ◌∙◌}
use mathlib.Core.Bool.{cond}
use mathlib.Core.List.{List}
use native.Mathlib.Omega.{arith}
use lib.Dec.{ltb}
use lib.ListN.{get_or}
use Rattle.widths.specs.Table.{width_record_size}
use Rattle.packed.proofs.Writing.{Writing, judged_preambled, writing_start, putting, writing_on, writing_end}
use Rattle.packed.proofs.tables.write_records.Goals as goal

pub checksum_of-checksum-requires : goal.checksum_of-checksum-requires
checksum_of-checksum-requires c =
    (judged_preambled c.args.pk.now c.requires.past c.requires.judged).there

pub loop-at-init : goal.loop-at-init
loop-at-init c =
    let pk = c.args.pk.now in
    writing_start
    pk
    c.args.scale
    c.args.places.now
    c.args.out.now
    c.checksum_of-checksum.result
    c.requires
    (c.checksum_of-checksum.ensures ∙ sym (judged_preambled pk c.requires.past c.requires.judged).sum)

pub put_record-written-requires : goal.put_record-written-requires
put_record-written-requires c =
    let a = c.args in
    let l = c.loop-at in
    putting a.pk.now a.scale a.places.now a.out.now c.checksum_of-checksum.result l.out l.written l.at-index l.invariant (omega arith)

pub loop-at-preserved : goal.loop-at-preserved
loop-at-preserved c =
    let a = c.args in
    let l = c.loop-at in
    let put = c.put_record-written in
    let on = writing_on a.pk.now a.scale a.places.now a.out.now c.checksum_of-checksum.result l.out l.written l.at-index l.invariant (omega arith) in
    subst
    (λ (n : ℕ). Writing a.pk.now a.scale a.places.now a.out.now c.checksum_of-checksum.result put.new.out n (l.at-index + 1))
    (sym put.ensures.value)
    (subst
    (λ (area : List ℕ). Writing a.pk.now a.scale a.places.now a.out.now c.checksum_of-checksum.result area (cond (ltb 0 (get_or a.places.now l.at-index 0)) (l.written + width_record_size) l.written) (l.at-index + 1))
    (sym put.ensures.out_after)
    on)

pub returns : goal.returns
returns c =
    let a = c.args in
    let l = c.loop-at in
    writing_end a.pk.now a.scale a.places.now a.out.now c.checksum_of-checksum.result l.out l.written l.at-index l.invariant (omega arith)
