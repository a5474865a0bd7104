-- `numbers::signed_at` meets its contract. Assumes nothing.
use mathlib.Core.Path.{◌∙◌, ap₂}
use native.Mathlib.Omega.{arith}
use borrow.Author.Rules.{sfits_of}
use Prim.Native.Nat.{◌<◌, ◌≤◌, ◌^◌}
use mir.Syntax.{w64}
use mir.Facts.{to_z-of_z}
use Rattle.numbers.specs.Signs.{from_twos}
use Rattle.numbers.proofs.Signed.{from_small}
use Rattle.numbers.proofs.Bytes.{power_le}
use Rattle.numbers.proofs.signed_at.Goals as goal

pub pow-full-requires : goal.pow-full-requires
pow-full-requires c = omega (arith, power_le c.args.count 4 (omega arith))

pub from_twos-requires : goal.from_twos-requires
from_twos-requires c = omega (arith, power_le c.args.count 4 (omega arith))

pub returns : goal.returns
returns c =
    let r = to_z-of_z {w = w64} (sfits_of c.from_twos.type_inv) ∙ c.from_twos.ensures in
    let below : c.unsigned_at.result < c.pow-full.result = omega arith in
    let most : c.pow-full.result ≤ 2 ^ 32 = omega (arith, power_le c.args.count 4 (omega arith)) in
    record { value = r ∙ ap₂ from_twos c.pow-full.ensures c.unsigned_at.ensures.value; result_bound = rw r (omega (arith, from_small c.pow-full.result c.unsigned_at.result below)) }
