-- The numbers among a command's parameters, by appendix A's signs. Assumes nothing.
use Rattle.std.specs.Prelude.{ℕ, ◌+◌, ◌-◌, cond, List, ltb, eqb, length, drop, ℤ, pos}
use Rattle.numbers.specs.Bytes.{unsigned_at, signed_at}
use Rattle.commands.specs.Fields.{unsigned_in, signed_in, rule_height_field, rule_width_field, selection_number_size, definition_number_size, definition_checksum, definition_scale, definition_design_size, definition_area_length, definition_name}

-- a number of one to four bytes: of four bytes it has a sign, of fewer it has none (rule 2.6)
abbrev pub number_at : List ℕ → ℕ → ℕ → ℤ
number_at params at count = cond (eqb count 4) (signed_at params at count) (pos (unsigned_at params at count))

-- a character's code: the opcode itself up to 127, else the parameter (rule 2.6)
abbrev pub character_code : ℕ → List ℕ → ℤ
character_code opcode params = cond (ltb opcode 128) (pos opcode) (number_at params 0 (length params))

-- the distance of a move has a sign in any number of bytes (rule 2.6)
abbrev pub distance : List ℕ → ℤ
distance params = signed_at params 0 (length params)

-- a rule's height (rule 2.6)
abbrev pub rule_height : List ℕ → ℤ
rule_height params = signed_in rule_height_field params

-- a rule's width (rule 2.6)
abbrev pub rule_width : List ℕ → ℤ
rule_width params = signed_in rule_width_field params

-- the font that a selection names: fnt_num_0 (171) to fnt_num_63 by the opcode itself, fnt1 (235) to fnt4 by the parameter (rule 2.6)
abbrev pub selected_font : ℕ → List ℕ → ℤ
selected_font opcode params = cond (ltb opcode 235) (pos (opcode - 171)) (number_at params 0 (selection_number_size opcode))

-- the font that a definition names (rule 2.6)
abbrev pub defined_font : ℕ → List ℕ → ℤ
defined_font opcode params = number_at params 0 (definition_number_size opcode)

-- what a definition says of its font: the parameters after the font's number (rule 2.6)
abbrev pub definition : ℕ → List ℕ → List ℕ
definition opcode params = drop (definition_number_size opcode) params

-- its check sum (rule 2.6)
abbrev pub font_checksum : List ℕ → ℕ
font_checksum definition = unsigned_in definition_checksum definition

-- its scale (rule 2.6)
abbrev pub font_scale : List ℕ → ℕ
font_scale definition = unsigned_in definition_scale definition

-- its design size (rule 2.6)
abbrev pub font_design_size : List ℕ → ℕ
font_design_size definition = unsigned_in definition_design_size definition

-- its name, which is what stands behind the area (rule 7.10)
abbrev pub font_name : List ℕ → List ℕ
font_name definition = drop (definition_name + unsigned_in definition_area_length definition) definition
