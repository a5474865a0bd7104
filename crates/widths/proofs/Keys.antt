-- Keys as numbers: a key's bytes are check sum, scale, name and code joined, and a record is for a character just where its key is the character's. Assumes nothing.
use mathlib.Core.Path.{◌≡◌, refl, sym, ap, ap₂, ◌∙◌}
use mathlib.Core.Bool.{true, ◌&&◌, and-eq-true_iff}
use mathlib.Core.List.{List}
use Prim.Native.Nat.{ℕ, zero, suc, ◌+◌, ◌*◌, ◌^◌, ◌≤◌, ◌<◌}
use native.Mathlib.Nat.{suc-mul}
use native.Mathlib.Omega.{arith}
use lib.Dec.{ltb, eqb}
use lib.ListN.{get_or}
use borrow.Author.Tests.{eqb-true, eq-eqb}
use Rattle.numbers.specs.Bytes.{unsigned_at}
use Rattle.numbers.proofs.Bytes.{unsigned_more, unsigned_join, power_le}
use Rattle.numbers.proofs.Radix.{joined_twice, second_decides, first_same, second_same}
use Rattle.widths.specs.declared.table.Key.{Key}
use Rattle.widths.specs.Table.{WidthRecord, width_record_size, record_at, record_in, record_of}
use Rattle.widths.specs.LookUp.{is_for}
use Rattle.widths.specs.Steps.{block_number, key_number, InKey, KeyIs, KeyAt}

-- ---- a key's bytes as one number

-- check sum, scale, name and code as one number
abbrev pub character_key : ℕ → ℕ → ℕ → ℕ → ℕ
character_key checksum scale name code = ((checksum * 2 ^ 32 + scale) * 2 ^ 128 + name) * 256 + code

-- by the fields of the record
abbrev pub fields_key : WidthRecord → ℕ
fields_key r = character_key r.checksum r.scale r.name r.code

pub key_joined : (table : List ℕ) (at : ℕ) → (record_at table at).key ≡ fields_key (record_at table at)
key_joined table at =
    unsigned_more table at 24
    ∙ ap (λ (n : ℕ). n * 256 + get_or table (at + 24) 0) (unsigned_join table at 8 16 ∙ ap (λ (n : ℕ). n * 256 ^ 16 + unsigned_at table (at + 8) 16) (unsigned_join table at 4 4))

-- a key of a code alone has scale 0, however many bytes a name has
pub low_key : (named : ℕ) (table : List ℕ) (at : ℕ) → unsigned_at table at (named + 9) < 256 → unsigned_at table (at + 4) 4 ≡ 0
low_key named table at low = by (unsigned_at table at 8) refl
  where
    split : unsigned_at table at (named + 9) ≡ unsigned_at table at 8 * 256 ^ (named + 1) + unsigned_at table (at + 8) (named + 1)
    split = let same : named + 9 ≡ 8 + (named + 1) = omega arith in ap (unsigned_at table at) same ∙ unsigned_join table at 8 (named + 1)

    power : 256 ≤ 256 ^ (named + 1)
    power = power_le 1 (named + 1) (omega arith)

    by : (head : ℕ) → unsigned_at table at 8 ≡ head → unsigned_at table (at + 4) 4 ≡ 0
    by zero e = omega (arith, unsigned_join table at 4 4)
    by (suc head) e = absurd (omega (arith, split, power, ap (λ (n : ℕ). n * 256 ^ (named + 1)) e, suc-mul head (256 ^ (named + 1))))

-- ---- keys as the code has them

pub block_number_lem : {checksum scale name code : ℕ} {k : Key} → KeyIs checksum scale name code k → block_number k ≡ (checksum * 2 ^ 32 + scale) * 2 ^ 128 + name
block_number_lem {k = k} h = joined_twice k.head k.high k.low (2 ^ 64) ∙ ap₂ (λ (head n : ℕ). head * 2 ^ 128 + n) h.head_is h.name_is

pub key_number_lem : (checksum scale name code : ℕ) (k : Key) → KeyIs checksum scale name code k → key_number k ≡ character_key checksum scale name code
key_number_lem checksum scale name code k h = ap₂ (λ (block byte : ℕ). block * 256 + byte) (block_number_lem h) h.code_is

-- two keys with one number have the same parts
pub record SameKey (a b : Key) : Type 0 where
  pub head_same : a.head ≡ b.head
  pub high_same : a.high ≡ b.high
  pub low_same : a.low ≡ b.low

module _ (a b : Key) (a_in : InKey a) (b-in : InKey b) where
  -- where check sum, scale and name are one number
  pub same_parts : block_number a ≡ block_number b → SameKey a b
  same_parts e =
      let upper : a.head * 2 ^ 64 + a.high ≡ b.head * 2 ^ 64 + b.high = first_same (a.head * 2 ^ 64 + a.high) (b.head * 2 ^ 64 + b.high) (2 ^ 64) a.low b.low a_in.1 b-in.1 e in
      record {
        head_same = first_same a.head b.head (2 ^ 64) a.high b.high a_in.0 b-in.0 upper;
        high_same = second_same a.head b.head (2 ^ 64) a.high b.high a_in.0 b-in.0 upper;
        low_same = second_same (a.head * 2 ^ 64 + a.high) (b.head * 2 ^ 64 + b.high) (2 ^ 64) a.low b.low a_in.1 b-in.1 e;
      }

  -- where check sum, scale and name are the same, the codes decide
  pub code_reaches : a.code < 256 → block_number a ≡ block_number b → ltb a.code b.code ≡ ltb (key_number a) (key_number b)
  code_reaches a-code e = second_decides (block_number a) (block_number b) 256 a.code b.code a-code e

-- the parts of a key keep to their bytes
pub in_key : {checksum scale name code : ℕ} {k : Key} → KeyIs checksum scale name code k → InKey k
in_key h = (h.high_below, h.low_below, omega (arith, h.code_below))

-- two keys with one number for check sum, scale and name have the same
pub record SameParts (checksum scale name checksum' scale' name' : ℕ) : Type 0 where
  pub checksums : checksum ≡ checksum'
  pub scales : scale ≡ scale'
  pub names : name ≡ name'

module _ {checksum scale name code checksum' scale' name' code' : ℕ} {k k' : Key} (h : KeyIs checksum scale name code k) (h' : KeyIs checksum' scale' name' code' k') where
  pub same_blocks : block_number k ≡ block_number k' → SameParts checksum scale name checksum' scale' name'
  same_blocks e =
      let s = same_parts k k' (in_key h) (in_key h') e in
      let heads : checksum * 2 ^ 32 + scale ≡ checksum' * 2 ^ 32 + scale' = sym h.head_is ∙ s.head_same ∙ h'.head_is in
      record {
        checksums = first_same checksum checksum' (2 ^ 32) scale scale' h.scale_below h'.scale_below heads;
        scales = second_same checksum checksum' (2 ^ 32) scale scale' h.scale_below h'.scale_below heads;
        names = sym h.name_is ∙ ap₂ (λ (high low : ℕ). high * 2 ^ 64 + low) s.high_same s.low_same ∙ h'.name_is;
      }

  pub same_block_number : key_number k ≡ key_number k' → block_number k ≡ block_number k'
  same_block_number e = first_same (block_number k) (block_number k') 256 k.code k'.code h.code_below h'.code_below e

  pub same_codes : key_number k ≡ key_number k' → code ≡ code'
  same_codes e = sym h.code_is ∙ second_same (block_number k) (block_number k') 256 k.code k'.code h.code_below h'.code_below e ∙ h'.code_is

module _ (table : List ℕ) (index : ℕ) where
  pub key_is : (k : Key) → KeyAt table (index * width_record_size) k → key_number k ≡ (record_of table index).key
  unfolding record_in
  key_is k h = let r = record_at table (index * width_record_size) in key_number_lem r.checksum r.scale r.name r.code k h ∙ sym (key_joined table (index * width_record_size))

  -- a record for a character has its key
  module _ (checksum scale name byte : ℕ) where
    pub for_key : is_for (record_of table index) checksum scale name byte ≡ true → (record_of table index).key ≡ character_key checksum scale name byte
    unfolding record_in
    for_key e =
        let r = record_at table (index * width_record_size) in
        let outer = (and-eq-true_iff (eqb r.checksum checksum) (eqb r.scale scale && (eqb r.name name && eqb r.code byte))).0 e in
        let middle = (and-eq-true_iff (eqb r.scale scale) (eqb r.name name && eqb r.code byte)).0 outer.1 in
        let inner = (and-eq-true_iff (eqb r.name name) (eqb r.code byte)).0 middle.1 in
        key_joined table (index * width_record_size)
        ∙ ap₂ (λ (sum size : ℕ). character_key sum size r.name r.code) (eqb-true r.checksum checksum outer.0) (eqb-true r.scale scale middle.0)
        ∙ ap₂ (λ (called code : ℕ). character_key checksum scale called code) (eqb-true r.name name inner.0) (eqb-true r.code byte inner.1)

    -- and a record whose key is a character's is for it
    pub key_for : (k sought : Key) → KeyAt table (index * width_record_size) k → KeyIs checksum scale name byte sought → key_number k ≡ key_number sought
        → is_for (record_of table index) checksum scale name byte ≡ true
    unfolding record_in
    key_for k sought h is e =
        let r = record_at table (index * width_record_size) in
        let s = same_blocks h is (same_block_number h is e) in
        simp (eq-eqb r.checksum checksum s.checksums, eq-eqb r.scale scale s.scales, eq-eqb r.name name s.names, eq-eqb r.code byte (same_codes h is e))
