-- A turn of the check: from a record that is right to the next. Assumes nothing.
use mathlib.Core.Path.{◌≡◌, sym, ap, subst, ◌∙◌}
use mathlib.Core.Bool.{Bool, true, not, ◌&&◌}
use mathlib.Core.List.{List}
use Prim.Native.Nat.{ℕ, ◌+◌, ◌*◌, ◌≤◌, ◌<◌}
use native.Mathlib.Nat.{add_assoc}
use lib.Dec.{ltb}
use lib.ListN.{length}
use borrow.Author.Tests.{le-ltb}
use Rattle.names.specs.Names.{name_size}
use Rattle.widths.specs.declared.table.Key.{Key}
use Rattle.widths.specs.Table.{width_record_size, record_at}
use Rattle.widths.specs.Steps.{block_number, key_number, KeyAt, lawful_block, lawful_rest, Checking, with_code}
use Rattle.widths.proofs.Keys.{key_is}
use Rattle.widths.proofs.TableLaws.{here, key_right, check_turns}

module _ (table : List ℕ) (at least : ℕ) (checking : Checking name_size table at least) (key : Key) (is : KeyAt table at key) where
  -- the key that was read is that of the record
  pub key_here : key_number key ≡ here name_size table at least checking
  key_here = key_is table checking.index key (subst (λ (n : ℕ). KeyAt table n key) checking.place is)

  -- the test of the key, on the record's own
  pub key_tested : (not (ltb (key_number key) least) && lawful_block (record_at table at)) ≡ key_right name_size table at least checking
  key_tested = ap (λ (n : ℕ). not (ltb n least) && lawful_block (record_at table at)) key_here

  -- a record that is right leads to the next, whose key must reach one past this one's
  pub turned : at + width_record_size ≤ length table → (not (ltb (key_number key) least) && lawful_block (record_at table at)) ≡ true → lawful_rest (record_at table at) ≡ true
      → Checking name_size table (at + width_record_size) (key_number (with_code key (key.code + 1)))
  turned inside right rest =
      subst (Checking name_size table (at + width_record_size)) (ap (λ (n : ℕ). n + 1) (sym key_here) ∙ add_assoc (block_number key * 256) key.code 1)
      (check_turns name_size table at least checking inside (sym key_tested ∙ right) rest)

-- within one check sum, scale and name: the code reaches, and what was judged of the name holds
pub reached_in_block : (key least : Key) → block_number key ≡ block_number least → key.code < 256 → least.code ≤ key.code → (lawful : Bool) → lawful ≡ true
    → ltb key.code least.code ≡ ltb (key_number key) (key_number least) → (not (ltb (key_number key) (key_number least)) && lawful) ≡ true
reached_in_block key least same small reach lawful is e = simp (sym e ∙ le-ltb key.code least.code reach, is)
