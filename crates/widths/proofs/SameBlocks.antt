-- Records of one check sum, scale and name: what was judged of one holds of all. Assumes nothing.
use mathlib.Core.Path.{◌≡◌, ap₂}
use mathlib.Core.Bool.{◌&&◌}
use mathlib.Core.List.{List}
use Prim.Native.Nat.{ℕ, ◌+◌, ◌≤◌}
use native.Mathlib.Omega.{arith}
use lib.ListN.{length}
use Rattle.numbers.specs.Sizes.{lawful_size}
use Rattle.names.specs.Names.{name_then_zeros}
use Rattle.widths.specs.declared.table.Key.{Key}
use Rattle.widths.specs.AsBytes.{Bytes}
use Rattle.widths.specs.Table.{record_at}
use Rattle.widths.specs.Steps.{block_number, KeyAt, lawful_block}
use Rattle.widths.proofs.AsBytes.{parts_same}
use Rattle.widths.proofs.Keys.{same_blocks}

pub same_lawful : (table : List ℕ) → Bytes table → (at other : ℕ) (key key' : Key) → at + 32 ≤ length table → other + 32 ≤ length table
    → KeyAt table at key → KeyAt table other key' → block_number key ≡ block_number key' → lawful_block (record_at table at) ≡ lawful_block (record_at table other)
same_lawful table bytes at other key key' here there is is' e =
    let s = same_blocks is is' e in
    ap₂ (λ (scale : ℕ) (name : List ℕ). lawful_size scale && name_then_zeros name) s.scales (parts_same table bytes (at + 8) (other + 8) 16 (omega arith) (omega arith) s.names)
