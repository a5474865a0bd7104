-- `converting::converting::narrow_table` meets its contract. Assumes nothing.
use mathlib.Core.Path.{◌≡◌, ap}
use Prim.Native.Nat.{ℕ, ◌*◌}
use native.Mathlib.Omega.{arith}
use lib.ListN.{length}
use Rattle.names.specs.Names.{name_size}
use Rattle.widths.proofs.TableLaws.{table_size}
use Rattle.converting.proofs.converting.narrow_table.Goals as goal

pub convert-requires : goal.convert-requires
convert-requires c =
    let w = c.in_ok-widths.widths in
    let whole : length w.bytes.now ≡ length c.args.table.now = ap length c.in_ok-widths.ensures.ok in
    let all : c.in_ok-records.records ≡ w.records = c.in_ok-records.ensures.all in
    (omega arith, omega (arith, table_size name_size w.bytes.now w.records w.right, whole, ap (λ (n : ℕ). n * 32) all))
