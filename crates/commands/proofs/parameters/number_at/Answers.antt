-- `commands::parameters::number_at` meets its contract: one byte is itself, four are signed, fewer are small. Assumes nothing.
use mathlib.Core.Path.{refl, ap}
use lib.ListN.{get_or}
use Prim.Native.Nat.{◌<◌, ◌^◌}
use native.Mathlib.Omega.{arith}
use lib.IntN.{pos}
use borrow.Author.Tests.{ne_eqb}
use Rattle.numbers.proofs.Bytes.{unsigned_one, power_le}
use Rattle.numbers.proofs.Signed.{fits, read_pos}
use Rattle.commands.proofs.parameters.number_at.Goals as goal

pub returns-then-count-eq1 : goal.returns-then-count-eq1
returns-then-count-eq1 c =
    let a = c.args in
    let byte = c.type_inv.params a.at in
    rw (c.from.ensures, read_pos (get_or a.params.now a.at 0) (omega (arith, byte.fits))) (
      rw (c.if-count-eq1.true, unsigned_one) refl,
      omega (arith, byte.fits),
    )

pub overflow_cast-result : goal.overflow_cast-result
overflow_cast-result c = fits (pos c.unsigned_at.result) (omega (arith, power_le c.args.count 4 (omega arith)))

pub returns : goal.returns
returns c =
    let small : c.unsigned_at.result < 2 ^ 31 = omega (arith, power_le c.args.count 3 (omega arith)) in
    simp (read_pos c.unsigned_at.result (omega arith), ne_eqb _ _ c.if-count-eq4.false) (ap pos c.unsigned_at.ensures.value, omega arith)
