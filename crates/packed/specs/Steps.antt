-- What the code's own steps give and keep; no promise cites this. Assumes nothing.
use Rattle.std.specs.Prelude.{ℕ, ◌+◌, ◌*◌, ◌/◌, ◌≤◌, ◌<◌, ◌≡◌, Bool, cond, not, ◌&&◌, ◌||◌, List, ◌++◌, ltb, leb, eqb, length, drop, get_or, set, Option, Some, None}
use Rattle.refusals.specs.Numbers.{font_ends, misplaced_in_font, packet_too_short, wrong_packet}
use Rattle.refusals.specs.Answer.{Answer, given, refuse_if}
use Rattle.scaling.specs.Scaling.{lawful_first}
use Rattle.widths.specs.Table.{width_record_size}
use Rattle.commands.specs.Commands.{Command}
use Rattle.packed.specs.declared.Packet.{Packet}
use Rattle.packed.specs.declared.Found.{Found}
use Rattle.packed.specs.declared.Note.{Note}
use Rattle.packed.specs.Commands.{is_packet, is_no_op, is_preamble, form_of, counted_bytes, param_bytes}
use Rattle.packed.specs.Packets.{code_in, width_in, escapement_in}
use Rattle.packed.specs.Rules.{identification, lawful_escapement, places}
use Rattle.packed.specs.Judged.{font_judged}
use Rattle.widths.specs.Entries.{Entry, table_bytes}
use Rattle.packed.specs.Table.{font_table}

-- where a command ends whose parameters start at a place, if they are all there
abbrev pub extent_of : List ℕ → ℕ → ℕ → Option ℕ
extent_of pk from opcode =
    let rest = drop from pk in cond (ltb (length rest) (param_bytes opcode rest)) None (Some (from + param_bytes opcode rest))

-- the fields of the packet of a flag and the bytes that follow it
abbrev pub packet_of : ℕ → List ℕ → Packet
packet_of flag rest = record { code = code_in flag rest; width = width_in flag rest; escapement = escapement_in flag rest }

-- 19 is due, by the place and whether the postamble byte has passed
abbrev pub misplaced_at : ℕ → Bool → ℕ → List ℕ → Bool
misplaced_at at ended opcode rest =
    cond (eqb at 0) (not (is_preamble opcode && eqb (identification rest) 89)) (cond ended (not (is_no_op opcode)) (leb 247 opcode))

-- 21 is due, by the packet's fields and the places noted
abbrev pub wrong_fields : List ℕ → Packet → Bool
wrong_fields noted p =
    ltb 255 p.code || (ltb 0 (get_or noted p.code 0) || (not (lawful_first (p.width / 16777216)) || not (lawful_escapement p.escapement)))

-- what is found of a packet at a place that ends at another: 20 or 21, or its code
abbrev pub packet_found : ℕ → List ℕ → ℕ → List ℕ → ℕ → Answer Found
packet_found at noted flag rest next =
    refuse_if (ltb (counted_bytes flag rest) (form_of flag).fields) packet_too_short at
    (refuse_if (wrong_fields noted (packet_of flag rest)) wrong_packet at (given (record { next = next; code = Some (code_in flag rest) })))

-- what is found of a command at a place, by its opcode and the bytes that follow it: 18 to 21, or where it ends and a packet's code
abbrev pub found_at : ℕ → Bool → List ℕ → ℕ → List ℕ → Answer Found
found_at at ended noted opcode rest =
    let next = at + 1 + param_bytes opcode rest in
    refuse_if (ltb (length rest) (param_bytes opcode rest)) font_ends at
    (refuse_if (misplaced_at at ended opcode rest) misplaced_in_font at
    (cond (is_packet opcode) (packet_found at noted opcode rest next) (given (record { next = next; code = None }))))

-- the note with one command more, a packet with a code or another without
abbrev pub note_with : Option ℕ → ℕ → Note → Note
note_with (Some code) at n = record { places = set n.places code at; packets = n.packets + 1 }
note_with None at n = n

-- a packet's entry, by its fields
abbrev pub entry_from : ℕ → ℕ → Packet → Entry
entry_from checksum scale p = record { checksum = checksum; scale = scale; code = p.code; escapement = p.escapement; width = p.width }

-- the same of the packet at a place of a file
abbrev pub entry_at : ℕ → ℕ → List ℕ → ℕ → Entry
entry_at checksum scale pk at = entry_from checksum scale (packet_of (get_or pk at 0) (drop (at + 1) pk))

-- the fields of the packet at a place are there, and its record has room behind what is written
pub record Puttable (pk : List ℕ) (at written room : ℕ) : Type 0 where
  pub inside : at < length pk
  pub fields_there : at + 1 + ((form_of (get_or pk at 0)).length + (form_of (get_or pk at 0)).code) + (form_of (get_or pk at 0)).fields ≤ length pk
  pub space : written + width_record_size ≤ room

-- the table of a file that was judged can be written into an area of so many bytes
pub record Writable (pk : List ℕ) (scale : ℕ) (noted : List ℕ) (room : ℕ) : Type 0 where
  pub past : List Command
  pub judged : font_judged pk ≡ given past
  pub places_are : noted ≡ places past
  pub enough : width_record_size * length (font_table scale past) ≤ room

-- it is written into the area, and what stands behind it is left
abbrev pub WrittenBy : List ℕ → ℕ → List ℕ → List ℕ → Type 0
WrittenBy pk scale entry exit =
    (past : List Command) → font_judged pk ≡ given past → exit ≡ table_bytes (font_table scale past) ++ drop (width_record_size * length (font_table scale past)) entry
