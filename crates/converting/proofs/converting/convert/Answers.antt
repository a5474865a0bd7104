-- `converting::converting::convert` meets its contract. Assumes nothing.
use mathlib.Core.Path.{◌≡◌, ap}
use Prim.Native.Nat.{ℕ, ◌/◌, ◌<◌}
use native.Mathlib.Omega.{arith}
use lib.ListN.{length}
use Rattle.refusals.specs.Numbers.{area_too_short}
use Rattle.refusals.specs.Answer.{Answer, refused}
use Rattle.widths.specs.Table.{size_with}
use Rattle.converting.specs.Converting.{with_room, converted_area}
use Rattle.converting.proofs.Answered.{room_short, too_few}
use Rattle.converting.proofs.converting.convert.Goals as goal

short : (room to records : ℕ) → room / size_with to < records → ◌≡◌ {A = Answer ℕ} (refused area_too_short 0) (with_room room (size_with to) records)
short room to records few = room_short room (size_with to) records (too_few room (size_with to) records (omega arith) few)

pub returns-then-out-records-clause-result_value : goal.returns-then-out-records-clause-result_value
returns-then-out-records-clause-result_value g c = short (length c.args.out.now) g.row.TO c.args.records c.if-out-records.true

pub returns-then-out-records-clause-out_after : goal.returns-then-out-records-clause-out_after
returns-then-out-records-clause-out_after g c =
    ap (converted_area g.row.FROM g.row.TO c.args.table.now c.args.out.now) (short (length c.args.out.now) g.row.TO c.args.records c.if-out-records.true)
