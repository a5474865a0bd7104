-- Width records for any name by their numbers, and the bytes that they are written as. Assumes nothing.
use Rattle.std.specs.Prelude.{ℕ, List, [], ◌∷◌, ◌++◌, ℤ}
use Rattle.numbers.specs.Bytes.{bytes_of, signed_bytes_of}
use Rattle.names.specs.Names.{name_size}

-- what a width record for any name is made of; the width is a fix word as one number (rule 6.1)
pub record Entry : Type 0 where
  pub checksum : ℕ
  pub scale : ℕ
  pub code : ℕ
  pub escapement : ℤ
  pub width : ℕ

-- its bytes, field after field, with sixteen zeros for the name, and the zero byte behind the code (rule 6.1)
unfoldable pub entry_bytes : Entry → List ℕ
entry_bytes e =
    bytes_of 4 e.checksum
    ++ (bytes_of 4 e.scale ++ (bytes_of name_size 0 ++ (bytes_of 1 e.code ++ (bytes_of 1 0 ++ (signed_bytes_of 2 e.escapement ++ bytes_of 4 e.width)))))

-- the bytes of entries, one after the other (rule 6.2)
abbrev pub table_bytes : List Entry → List ℕ
table_bytes [] = []
table_bytes (e ∷ entries) = entry_bytes e ++ table_bytes entries
