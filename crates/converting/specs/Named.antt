-- Which records have a name. What the laws on refusal 24 are stated with. Assumes nothing.
use Rattle.std.specs.Prelude.{ℕ, ◌*◌, ◌<◌, ◌≡◌, List}
use Rattle.widths.specs.Table.{width_record_size, record_of}

-- none of so many records has a name: each has sixteen zeros (rule 13.3)
abbrev pub Unnamed : List ℕ → ℕ → Type 0
Unnamed table records = (index : ℕ) → index < records → (record_of table index).name ≡ 0

-- at a place stands the first of so many records that has a name (rule 13.3)
pub record FirstNamed (table : List ℕ) (records place : ℕ) : Type 0 where
  pub index : ℕ
  pub among : index < records
  pub place_is : place ≡ index * width_record_size
  pub has_name : (record_of table index).name ≡ 0 → ⊥
  pub none_before : Unnamed table index
