-- `converting::converting::write_records` meets its contract. Assumes nothing.
use Prim.Native.Nat.{ℕ, ◌+◌, ◌*◌, ◌≤◌}
use mathlib.Core.List.{List}
use mathlib.Core.Path.{◌≡◌, refl, ap, ◌∙◌}
use native.Mathlib.Omega.{arith}
use lib.ListN.{length, drop}
use lib.Seq.{sets}
use Rattle.widths.specs.Table.{size_with}
use Rattle.converting.specs.Converting.{in_form}
use Rattle.converting.proofs.Written.{all_written}
use Rattle.converting.proofs.Forms.{record_fits, form_written}
use Rattle.converting.proofs.converting.write_records.Goals as goal

pub loop-index-preserved : goal.loop-index-preserved
loop-index-preserved g c =
    let l = c.loop-index in
    let from = g.row.FROM in
    let to = g.row.TO in
    let at = l.index * size_with from in
    let written = l.index * size_with to in
    let here : at + size_with from ≤ length c.args.table.now = record_fits (size_with from) c.args.records l.index at (length c.args.table.now) c.requires.0 c.loop-index-test.true refl in
    c.put_record.ensures ∙ ap (λ (out : List ℕ). sets out written (in_form from to 1 (drop at c.args.table.now))) l.invariant
    ∙ form_written from to l.index c.args.table.now c.args.out.now at written (omega (arith, here)) refl refl

pub returns : goal.returns
returns g c =
    let l = c.loop-index in
    let all : l.index ≡ c.args.records = omega (arith, l.auto.index-end, c.loop-index-test.false) in
    l.invariant
    ∙ ap (λ (n : ℕ). sets c.args.out.now 0 (in_form g.row.FROM g.row.TO n c.args.table.now)) all
    ∙ all_written g.row.FROM g.row.TO c.args.records c.args.table.now c.args.out.now c.requires.0 c.requires.1
