-- The answer of a search does not depend on the hint: `FoundIn`, which the contract of `find` gives, leaves one answer. Assumes nothing.
use mathlib.Core.Path.{◌≡◌, sym, ◌∙◌}
use mathlib.Core.List.{List}
use Prim.Native.Nat.{ℕ}
use contract.Lifetimes.{Lfts}
use Rattle.std.specs.declared.option.Option.{Option}
use Rattle.names.specs.Names.{name_number, any_name}
use Rattle.widths.specs.declared.blocks.Block.{Block}
use Rattle.widths.specs.declared.table.Widths.{Widths}
use Rattle.widths.specs.Steps.{found_at, BlockIs, FoundIn}
use Rattle.widths.proofs.blocks.find.Reads as find

-- of any bytes and so many records, in two blocks: two answers that are found have the same record
pub hint_free : (table : List ℕ) → (records checksum scale name : ℕ) → (own any : Block) → (byte : ℕ) → (p q : Option ℕ)
    → BlockIs table records checksum scale name own → BlockIs table records checksum scale (name_number any_name) any
    → FoundIn table records own any byte p → FoundIn table records own any byte q → found_at table p ≡ found_at table q
hint_free table records checksum scale name own any byte p q own_is any_is h o = h checksum scale name own_is any_is ∙ sym (o checksum scale name own_is any_is)

-- so of the contract of `find` as it stands: two hints, one record
pub find_hint_free : (κs : Lfts 1) → (widths : Widths) → (checksum scale name : ℕ) → (own any : Block) → (byte hint other : ℕ) → (p q : Option ℕ) → (x y : _)
    → BlockIs widths.bytes.now widths.records checksum scale name own → BlockIs widths.bytes.now widths.records checksum scale (name_number any_name) any
    → find.Post κs (widths, (own, (any, (byte, (hint, tt))))) p x
    → find.Post κs (widths, (own, (any, (byte, (other, tt))))) q y → found_at widths.bytes.now p ≡ found_at widths.bytes.now q
find_hint_free κs widths checksum scale name own any byte hint other p q x y own_is any_is h o =
    hint_free widths.bytes.now widths.records checksum scale name own any byte p q own_is any_is h.0 o.0
