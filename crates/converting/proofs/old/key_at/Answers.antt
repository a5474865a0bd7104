-- `converting::old::key_at` meets its contract: eight bytes as one number are check sum and scale joined. Assumes nothing.
use Prim.Native.Nat.{◌+◌}
use mathlib.Core.Path.{◌∙◌}
use native.Mathlib.Omega.{arith}
use Rattle.numbers.proofs.Bytes.{unsigned_join, unsigned_below}
use Rattle.converting.proofs.old.key_at.Goals as goal

pub returns : goal.returns
returns c =
    let table = c.args.table.now in
    let at = c.args.at in
    record {
      head_is = c.unsigned_at.ensures.value ∙ unsigned_join table at 4 4;
      scale_below = unsigned_below table (at + 4) 4 (λ i h. omega (arith, c.type_inv.table (at + 4 + i)));
      code_is = c.from.ensures;
      code_below = omega (arith, c.from.ensures, c.type_inv.table (at + 8));
    }
