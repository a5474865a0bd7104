-- What the code's own steps give and keep; no promise cites this. Assumes nothing.
use Rattle.std.specs.Prelude.{ℕ, ◌+◌, ◌*◌, ◌%◌, ◌^◌, ◌≤◌, ◌<◌, ◌≡◌, Bool, true, not, List, ltb, get_or}
use Rattle.numbers.specs.Bytes.{unsigned_at}
use Rattle.numbers.specs.Sizes.{lawful_size}
use Rattle.converting.specs.declared.old.OldKey.{OldKey}

-- a key of the old form as the number of its nine bytes
abbrev pub old_key_number : OldKey → ℕ
old_key_number k = k.head * 256 + k.code

-- k is the key of the old record at a place
pub record OldKeyAt (table : List ℕ) (at : ℕ) (k : OldKey) : Type 0 where
  pub head_is : k.head ≡ unsigned_at table at 4 * 2 ^ 32 + unsigned_at table (at + 4) 4
  pub scale_below : unsigned_at table (at + 4) 4 < 2 ^ 32
  pub code_is : k.code ≡ get_or table (at + 8) 0
  pub code_below : k.code < 256

-- a key reaches another: it is not below it
abbrev pub old_reaches : OldKey → OldKey → Bool
old_reaches key least = not (ltb (old_key_number key) (old_key_number least))

-- what a next key must reach: where a key of its head can have its code, its scale is lawful
abbrev pub OldLeastKey : OldKey → Type 0
OldLeastKey least = (least.code ≤ 256) × (least.code < 256 → lawful_size (least.head % 2 ^ 32) ≡ true)
