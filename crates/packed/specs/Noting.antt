-- What the note of 256 places says of a code. What the laws on the note are stated with. Assumes nothing.
use Rattle.std.specs.Prelude.{ℕ, ◌+◌, ◌≤◌, ◌<◌, ◌≡◌, true, List, [], ◌∷◌, length, drop, get_or}
use Rattle.commands.specs.Commands.{Command}
use Rattle.packed.specs.Commands.{is_packet, form_of}
use Rattle.packed.specs.Packets.{code_in, width_in, escapement_in}
use Rattle.packed.specs.Rules.{places}
use Rattle.packed.specs.Judged.{taken}
use Rattle.packed.specs.Table.{packets_for}

-- the packet for a code that stands at a place of a file, behind its start, with all its fields, is this command, and the bytes there read as its code, width and escapement (rules 11.3, 11.10)
pub record IsPacket (pk : List ℕ) (code p : ℕ) (c : Command) : Type 0 where
  pub later : 0 < p
  pub inside : p < length pk
  pub flag : is_packet (get_or pk p 0) ≡ true
  pub stands : taken (get_or pk p 0) (drop (p + 1) pk) ≡ c
  pub room : p + 1 + ((form_of (get_or pk p 0)).length + (form_of (get_or pk p 0)).code) + (form_of (get_or pk p 0)).fields ≤ length pk
  pub code_is : code_in c.opcode c.params ≡ code
  pub code_there : code_in c.opcode c.params ≡ code_in (get_or pk p 0) (drop (p + 1) pk)
  pub width_there : width_in c.opcode c.params ≡ width_in (get_or pk p 0) (drop (p + 1) pk)
  pub escapement_there : escapement_in c.opcode c.params ≡ escapement_in (get_or pk p 0) (drop (p + 1) pk)

-- what the note of a list says of a code: 0, and no packet of the list has it; or a place, and there stands the one packet that has it (rule 11.10)
pub data NotedAt (pk : List ℕ) (past : List Command) (code : ℕ) : Type 0 where
  none : get_or (places past) code 0 ≡ 0 → packets_for code past ≡ [] → NotedAt pk past code
  one : (c : Command) → packets_for code past ≡ c ∷ [] → IsPacket pk code (get_or (places past) code 0) c → NotedAt pk past code
