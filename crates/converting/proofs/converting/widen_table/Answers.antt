-- `converting::converting::widen_table` meets its contract. Assumes nothing.
use mathlib.Core.Path.{◌≡◌, sym, ap, ◌∙◌}
use native.Mathlib.Omega.{arith}
use Rattle.refusals.specs.Answer.{answered, given}
use Rattle.widths.specs.Table.{old_table}
use Rattle.widths.proofs.TableLaws.{table_size}
use Rattle.converting.proofs.converting.widen_table.Goals as goal

pub convert-requires : goal.convert-requires
convert-requires c =
    let right : old_table c.args.old.now ≡ given c.in_ok-records.records = sym c.check_old.ensures ∙ ap answered c.in_ok-records.was in
    (omega arith, omega (arith, table_size 0 c.args.old.now c.in_ok-records.records right))
