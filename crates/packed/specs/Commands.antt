-- The commands of a PK file, and how many parameter bytes each has. Assumes nothing.
use Rattle.std.specs.Prelude.{ℕ, ◌+◌, ◌-◌, ◌*◌, ◌%◌, Bool, cond, ◌&&◌, List, ltb, leb, eqb}
use Rattle.numbers.specs.Bytes.{unsigned_at}
use Rattle.packed.specs.declared.Form.{Form}

-- a flag: the first byte of a packet (rule 11.2)
abbrev pub is_packet : ℕ → Bool
is_packet opcode = ltb opcode 240

-- a special, whose length has one to four bytes (rule 11.2)
abbrev pub is_special : ℕ → Bool
is_special opcode = leb 240 opcode && leb opcode 243

-- yyy, a number of four bytes (rule 11.2)
abbrev pub is_number : ℕ → Bool
is_number opcode = eqb opcode 244

-- the postamble byte (rule 11.2)
abbrev pub is_postamble : ℕ → Bool
is_postamble opcode = eqb opcode 245

-- a no-op (rule 11.2)
abbrev pub is_no_op : ℕ → Bool
is_no_op opcode = eqb opcode 246

-- the preamble (rule 11.2)
abbrev pub is_preamble : ℕ → Bool
is_preamble opcode = eqb opcode 247

-- the form that a flag's lowest three bits name, the short one, the extended one or the long one: what the flag adds to the packet length, how many bytes
-- have the length, the code, the width and the escapement, and how many bytes there are from the width to the last offset (rule 11.3)
unfoldable pub form_of : ℕ → Form
form_of flag =
    cond (ltb (flag % 8) 4) (record { added = flag % 4 * 256; length = 1; code = 1; width = 3; escapement = 1; fields = 8 })
    (cond (ltb (flag % 8) 7) (record { added = flag % 4 * 65536; length = 2; code = 1; width = 3; escapement = 2; fields = 13 })
    (record { added = 0; length = 4; code = 4; width = 4; escapement = 4; fields = 28 }))

-- the parameter bytes that a command always has: of a packet length and code, of a special its length, of the preamble all but the comment (rules 11.2, 11.3)
unfoldable pub fixed_bytes : ℕ → ℕ
fixed_bytes opcode =
    cond (is_packet opcode) ((form_of opcode).length + (form_of opcode).code)
    (cond (is_special opcode) (opcode - 239) (cond (is_number opcode) 4 (cond (is_preamble opcode) 18 0)))

-- the bytes that a length inside the command counts: a packet's from its width on, a special's text, the preamble's comment (rules 11.2, 11.4)
unfoldable pub counted_bytes : ℕ → List ℕ → ℕ
counted_bytes opcode params =
    cond (is_packet opcode) ((form_of opcode).added + unsigned_at params 0 (form_of opcode).length)
    (cond (is_special opcode) (unsigned_at params 0 (opcode - 239)) (cond (is_preamble opcode) (unsigned_at params 1 1) 0))

-- how long the parameters are of which `params` has the first bytes (rule 11.4)
abbrev pub param_bytes : ℕ → List ℕ → ℕ
param_bytes opcode params = fixed_bytes opcode + counted_bytes opcode params
