-- Placement records and their bytes, and what a command adds to a page. Assumes nothing.
use Rattle.std.specs.Prelude.{ℕ, List, [], ◌∷◌, ◌++◌, ℤ}
use Rattle.numbers.specs.Bytes.{bytes_of, signed_bytes_of}
use Rattle.state.specs.declared.Level.{Level}
use Rattle.state.specs.declared.Font.{Font}
use Rattle.placements.specs.declared.Record.{Record}

-- how many bytes a record has (rule 8.1)
abbrev pub placement_record_size : ℕ
placement_record_size = 20

-- a record's bytes, field after field (rule 8.1)
unfoldable pub record_bytes : Record → List ℕ
record_bytes r =
    bytes_of 1 r.kind
    ++ (bytes_of 1 r.font
    ++ (bytes_of 2 r.page
    ++ (signed_bytes_of 4 r.hh
    ++ (signed_bytes_of 4 r.vv
    ++ (signed_bytes_of 4 r.content ++ signed_bytes_of 4 r.extent)))))

-- the bytes of records, one after the other (rule 8.1)
abbrev pub all_bytes : List Record → List ℕ
all_bytes [] = []
all_bytes (r ∷ records) = record_bytes r ++ all_bytes records

-- a character's record: at the pixel pair, with its code as the command has it and its escapement (rule 7.6)
abbrev pub character_record : ℕ → Level → Font → ℤ → ℤ → Record
character_record page level font code escapement =
    record { kind = 1; font = font.number; page = page; hh = level.hh; vv = level.vv; content = code; extent = escapement }

-- a rule's record: at the pixel pair, with height and width in pixels (rule 7.8)
abbrev pub rule_record : ℕ → Level → ℤ → ℤ → Record
rule_record page level height width =
    record { kind = 2; font = 0; page = page; hh = level.hh; vv = level.vv; content = height; extent = width }

-- what a command adds to the page: a record, a missing character, a special (rule 8.3)
pub data Added : Type 0 where
  nothing : Added
  placed : Record → Added
  missing : Added
  special : Added
