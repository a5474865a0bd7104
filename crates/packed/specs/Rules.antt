-- The rules of a PK file's list of commands. `past` is the list of the commands before, the newest first. Assumes nothing.
use Rattle.std.specs.Prelude.{ℕ, ◌+◌, ◌/◌, Bool, false, cond, not, ◌&&◌, ◌||◌, List, [], ◌∷◌, ltb, leb, eqb, set, replicate, ℤ, pos, negsuc}
use Rattle.std.specs.Int.Signed.{le_z}
use Rattle.refusals.specs.Numbers.{misplaced_in_font, packet_too_short, wrong_packet}
use Rattle.numbers.specs.Bytes.{unsigned_at}
use Rattle.scaling.specs.Scaling.{lawful_first}
use Rattle.commands.specs.Commands.{Command, place}
use Rattle.packed.specs.Commands.{is_packet, is_postamble, is_no_op, is_preamble, form_of, counted_bytes}
use Rattle.packed.specs.Packets.{code_in, width_in, escapement_in}

-- ---- what the commands so far amount to

-- the postamble byte has passed (rule 11.5)
abbrev pub ended : List Command → Bool
ended [] = false
ended (c ∷ past) = is_postamble c.opcode || ended past

-- a command is a packet for a code (rule 11.3)
abbrev pub is_packet_for : ℕ → Command → Bool
is_packet_for code c = is_packet c.opcode && eqb (code_in c.opcode c.params) code

-- a packet for this code has passed (rule 11.6)
abbrev pub met : ℕ → List Command → Bool
met code [] = false
met code (c ∷ past) = is_packet_for code c || met code past

-- ---- 19: where a command may stand

-- the identification that the preamble has (rule 11.5)
abbrev pub identification : List ℕ → ℕ
identification params = unsigned_at params 0 1

-- 19 is due: another command first than the preamble with its identification, another than a no-op behind the postamble byte, elsewhere the preamble or an opcode of no command (rule 11.5)
abbrev pub misplaced_after : List Command → Command → Bool
misplaced_after [] c = not (is_preamble c.opcode && eqb (identification c.params) 89)
misplaced_after (before ∷ past) c = cond (ended (before ∷ past)) (not (is_no_op c.opcode)) (leb 247 c.opcode)

-- ---- 20: the packet length

-- 20 is due: a packet has not the bytes of its fields (rule 11.6)
abbrev pub too_short : Command → Bool
too_short c = ltb (counted_bytes c.opcode c.params) (form_of c.opcode).fields

-- ---- 21: what a packet says

-- two bytes with a sign hold an escapement (rule 11.6)
abbrev pub lawful_escapement : ℤ → Bool
lawful_escapement escapement = le_z (negsuc 32767) escapement && le_z escapement (pos 32767)

-- 21 is due: a code above 255 or met before, a width with another first byte than a width table's, an escapement that two bytes do not hold (rule 11.6)
abbrev pub packet_wrong : List Command → Command → Bool
packet_wrong past c =
    ltb 255 (code_in c.opcode c.params)
    || (met (code_in c.opcode c.params) past
    || (not (lawful_first (width_in c.opcode c.params / 16777216)) || not (lawful_escapement (escapement_in c.opcode c.params))))

-- ---- the lowest number that is due, or 0

-- of a packet: 20, then 21 (rule 11.9)
abbrev pub packet_fault : List Command → Command → ℕ
packet_fault past c = cond (too_short c) packet_too_short (cond (packet_wrong past c) wrong_packet 0)

-- of a command: 19 before those of a packet (rule 11.9)
unfoldable pub font_fault : List Command → Command → ℕ
font_fault past c = cond (misplaced_after past c) misplaced_in_font (cond (is_packet c.opcode) (packet_fault past c) 0)

-- ---- the note

-- for each code from 0 to 255 the place of its packet; 0, where the preamble stands, for a code without one (rule 11.10)
abbrev pub places : List Command → List ℕ
places [] = replicate 256 0
places (c ∷ past) = cond (is_packet c.opcode) (set (places past) (code_in c.opcode c.params) (place past)) (places past)

-- how many packets there are (rule 11.10)
abbrev pub packets : List Command → ℕ
packets [] = 0
packets (c ∷ past) = cond (is_packet c.opcode) (packets past + 1) (packets past)
