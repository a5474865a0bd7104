-- `widths::blocks::first_code` meets its contract: within a block the codes are in order as the keys are. Assumes nothing.
use Prim.Native.Nat.{ℕ, ◌≤◌, ◌<◌}
use mathlib.Core.Bool.{true}
use mathlib.Core.Logic.{⊎_elim}
use mathlib.Core.Path.{◌≡◌}
use native.Mathlib.Omega.{arith}
use borrow.Author.Tests.{ltb-true, ltb-false, lt-ltb}
use lib.Dec.{ltb}
use Rattle.numbers.proofs.Radix.{less_or_not}
use Rattle.names.specs.Names.{name_size}
use Rattle.widths.specs.Table.{record_of}
use Rattle.widths.proofs.TableLaws.{keys_rise}
use Rattle.widths.proofs.BlockSearch.{block_starts, key_coded, code_below, code_above}
use Rattle.widths.proofs.blocks.first_code.Goals as goal

pub returns : goal.returns
returns c = λ checksum scale name is.
    let w = c.args.widths in
    let table = w.bytes.now in
    let block = c.args.block in
    let byte = c.args.byte in
    let starts = block_starts table w.below w.records w.right checksum scale name block is byte c.requires.1 in
    let coded = key_coded table w.below w.records w.right checksum scale name block is in
    let rises : (i j : ℕ) → block.start ≤ i → i < j → j < block.end → ltb (record_of table j).code byte ≡ true → ltb (record_of table i).code byte ≡ true =
    λ i j low h high e. lt-ltb (record_of table i).code byte
    (omega (arith, coded i low (omega arith), coded j (omega arith) high, keys_rise name_size table w.records w.right i j h (omega (arith, starts.top)), ltb-true (record_of table j).code byte e)) in
    let parts = c.first_past.ensures.parts (λ (i : ℕ). ltb (record_of table i).code byte) (λ i r low high post. post) rises in
    let first = c.first_past.result in
    let end : first ≤ block.end = c.first_past.ensures.bound.1 in
    record {
      bound = omega (arith, starts.top);
      below = λ j h. ⊎_elim
          (λ (under : j < block.start). starts.below j under)
          (λ (from : block.start ≤ j). code_below table w.below w.records w.right checksum scale name block is j from (omega arith) byte (ltb-true (record_of table j).code byte (parts.0 j from h)))
          (less_or_not j block.start);
      above = λ j h inside. ⊎_elim
          (λ (under : j < block.end). code_above table w.below w.records w.right checksum scale name block is j (omega (arith, c.first_past.ensures.bound.0)) under byte (ltb-false (record_of table j).code byte (parts.1 j h under)))
          (λ (over : block.end ≤ j). starts.above j over inside)
          (less_or_not j block.end);
    }
