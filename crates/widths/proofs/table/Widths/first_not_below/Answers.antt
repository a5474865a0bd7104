-- `widths::table::Widths::first_not_below` meets its contract: the keys of a right table rise. Assumes nothing.
use Prim.Native.Nat.{ℕ}
use native.Mathlib.Nat.{lt_trans}
use native.Mathlib.Omega.{arith}
use borrow.Author.Tests.{ltb-true, ltb-false, lt-ltb}
use lib.Dec.{ltb}
use Rattle.names.specs.Names.{name_size}
use Rattle.widths.specs.Table.{record_of}
use Rattle.widths.specs.Steps.{key_number}
use Rattle.widths.proofs.TableLaws.{keys_rise}
use Rattle.widths.proofs.table.Widths.first_not_below.Goals as goal

pub returns : goal.returns
returns c =
    let table = c.args.self.bytes.now in
    let key = key_number c.args.key in
    let parts = c.first_past.ensures.parts (λ (i : ℕ). ltb (record_of table i).key key) (λ i r low high post. post)
    (λ i j low h high e. lt-ltb (record_of table i).key key (lt_trans (keys_rise name_size table c.args.self.records c.args.self.right i j h high) (ltb-true (record_of table j).key key e))) in
    record {
      bound = c.first_past.ensures.bound.1;
      below = λ j h. ltb-true (record_of table j).key key (parts.0 j (omega arith) h);
      above = λ j h inside. ltb-false (record_of table j).key key (parts.1 j h inside);
    }
