-- The width table that a PK file and a scale make. Assumes nothing.
use Rattle.std.specs.Prelude.{ℕ, zero, suc, ◌+◌, ◌*◌, cond, not, List, [], ◌∷◌, ◌++◌, map, ltb, length, drop}
use Rattle.refusals.specs.Numbers.{area_too_short, wrong_scale}
use Rattle.refusals.specs.Answer.{Answer, refused, given, refuse_if, and_then}
use Rattle.numbers.specs.Bytes.{unsigned_at}
use Rattle.numbers.specs.Sizes.{lawful_size}
use Rattle.widths.specs.Table.{width_record_size}
use Rattle.widths.specs.Entries.{Entry, table_bytes}
use Rattle.commands.specs.Commands.{Command}
use Rattle.packed.specs.Commands.{is_preamble}
use Rattle.packed.specs.Packets.{code_in, width_in, escapement_in}
use Rattle.packed.specs.Rules.{is_packet_for}
use Rattle.packed.specs.Judged.{font_judged}

-- the check sum in the preamble's parameters, behind the comment and the design size (rule 11.2)
abbrev pub checksum_in : List ℕ → ℕ
checksum_in params = unsigned_at params (6 + unsigned_at params 1 1) 4

-- the check sum of the font: its preamble's (rule 11.11)
abbrev pub font_checksum : List Command → ℕ
font_checksum [] = 0
font_checksum (c ∷ past) = cond (is_preamble c.opcode) (checksum_in c.params) (font_checksum past)

-- a packet's entry (rule 11.11)
abbrev pub entry_of : ℕ → ℕ → Command → Entry
entry_of checksum scale c =
    record {
      checksum = checksum;
      scale = scale;
      code = code_in c.opcode c.params;
      escapement = escapement_in c.opcode c.params;
      width = width_in c.opcode c.params;
    }

-- the packets for a code (rule 11.12)
abbrev pub packets_for : ℕ → List Command → List Command
packets_for code [] = []
packets_for code (c ∷ past) = cond (is_packet_for code c) (c ∷ packets_for code past) (packets_for code past)

-- the packets for so many codes from one on, in the order of codes (rule 11.12)
abbrev pub packets_from : ℕ → ℕ → List Command → List Command
packets_from zero code past = []
packets_from (suc left) code past = packets_for code past ++ packets_from left (suc code) past

-- the table of a font at a scale, entry by entry (rule 11.12)
abbrev pub font_table : ℕ → List Command → List Entry
font_table scale past = map (entry_of (font_checksum past) scale) (packets_from 256 0 past)

-- 17 where the area has no room for all records (rule 9.9)
abbrev pub with_room : ℕ → List Entry → Answer (List Entry)
with_room room entries = refuse_if (ltb room (width_record_size * length entries)) area_too_short 0 (given entries)

-- what width_table makes of a file and a scale, for an area of so many bytes: the scale is judged first, then the file, then the area (rule 9.9)
abbrev pub table_made : List ℕ → ℕ → ℕ → Answer (List Entry)
table_made pk scale room = refuse_if (not (lawful_size scale)) wrong_scale 0 (and_then (font_judged pk) (λ past. with_room room (font_table scale past)))

-- how many records that is (rule 9.9)
abbrev pub records_made : Answer (List Entry) → Answer ℕ
records_made answer = and_then answer (λ entries. given (length entries))

-- the area afterwards: the records' bytes, then what stood there; as it was where it is refused (rule 9.1)
abbrev pub table_area : List ℕ → Answer (List Entry) → List ℕ
table_area entry (refused number place) = entry
table_area entry (given entries) = table_bytes entries ++ drop (width_record_size * length entries) entry
