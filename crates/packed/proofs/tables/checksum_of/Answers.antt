-- `packed::tables::checksum_of` meets its contract. Assumes nothing.
use Prim.Native.Nat.{◌+◌}
use mathlib.Core.Path.{◌≡◌, refl, sym, ◌∙◌}
use native.Mathlib.Omega.{arith}
use lib.ListN.{drop}
use Rattle.numbers.specs.Bytes.{unsigned_at}
use Rattle.numbers.proofs.Bytes.{unsigned_one}
use Rattle.packed.proofs.Fields.{there}
use Rattle.packed.proofs.tables.checksum_of.Goals as goal

pub returns : goal.returns
returns c =
    let pk = c.args.pk.now in
    let count : c.from-comment.result ≡ unsigned_at (drop 1 pk) 1 1 = c.from-comment.ensures ∙ sym (unsigned_one pk 2) ∙ there pk 1 1 2 1 refl in
    c.unsigned_at.ensures.value ∙ there pk 1 (6 + unsigned_at (drop 1 pk) 1 1) _ 4 (omega (arith, count))
