-- The fields among the parameters of commands: the name of each, where it starts, how many bytes it has, and by its type whether it has a sign.
-- Assumes nothing.
use Rattle.std.specs.Prelude.{ℕ, ◌-◌, List, ℤ}
use Rattle.numbers.specs.Bytes.{unsigned_at, signed_at}
use Rattle.commands.specs.declared.fields.UnsignedField.{UnsignedField}
use Rattle.commands.specs.declared.fields.SignedField.{SignedField}

-- the number in a field without a sign (rule 2.6)
abbrev pub unsigned_in : UnsignedField → List ℕ → ℕ
unsigned_in field params = unsigned_at params field.at field.size

-- the number in a field with a sign (rule 2.6)
abbrev pub signed_in : SignedField → List ℕ → ℤ
signed_in field params = signed_at params field.at field.size

-- the same bytes, read with a sign (rule 2.6)
abbrev pub as_signed : UnsignedField → SignedField
as_signed field = record { at = field.at; size = field.size }

-- ---- set_rule and put_rule: height, then width

-- a, how far it goes up (rule 2.6)
abbrev pub rule_height_field : SignedField
rule_height_field = record { at = 0; size = 4 }

-- b, how far it goes to the right (rule 2.6)
abbrev pub rule_width_field : SignedField
rule_width_field = record { at = 4; size = 4 }

-- ---- bop: ten counts, then a pointer

-- p, the place of the bop before (rule 2.6)
abbrev pub bop_pointer : SignedField
bop_pointer = record { at = 40; size = 4 }

-- ---- pre: identification, three units, the comment's length, then the comment

-- i, which form of file this is (rule 2.6)
abbrev pub pre_identification : UnsignedField
pre_identification = record { at = 0; size = 1 }

-- num, the numerator of the unit of length (rule 2.6)
abbrev pub pre_num : UnsignedField
pre_num = record { at = 1; size = 4 }

-- den, its denominator (rule 2.6)
abbrev pub pre_den : UnsignedField
pre_den = record { at = 5; size = 4 }

-- mag, a thousand times the magnification (rule 2.6)
abbrev pub pre_mag : UnsignedField
pre_mag = record { at = 9; size = 4 }

-- k, how long the comment is (rule 2.6)
abbrev pub pre_comment_length : UnsignedField
pre_comment_length = record { at = 13; size = 1 }

-- ---- post: a pointer, the three units, two free numbers, depth, pages

-- p, the place of the last bop; it is read as the pointer of a bop is (rule 2.6)
abbrev pub post_pointer : SignedField
post_pointer = record { at = 0; size = 4 }

-- num, once more (rule 2.6)
abbrev pub post_num : UnsignedField
post_num = record { at = 4; size = 4 }

-- den, once more (rule 2.6)
abbrev pub post_den : UnsignedField
post_den = record { at = 8; size = 4 }

-- mag, once more (rule 2.6)
abbrev pub post_mag : UnsignedField
post_mag = record { at = 12; size = 4 }

-- s, the depth that post states (rule 2.6)
abbrev pub post_depth : UnsignedField
post_depth = record { at = 24; size = 2 }

-- t, the number of pages (rule 2.6)
abbrev pub post_pages : UnsignedField
post_pages = record { at = 26; size = 2 }

-- ---- post_post: a pointer, then the identification

-- q, the place of post; it is read as the pointer of a bop is (rule 2.6)
abbrev pub end_pointer : SignedField
end_pointer = record { at = 0; size = 4 }

-- i, once more (rule 2.6)
abbrev pub end_identification : UnsignedField
end_identification = record { at = 4; size = 1 }

-- ---- a special: k in as many bytes as its opcode tells, then the text's k bytes

-- k, how long the text is, of xxx1 (239) to xxx4 (rule 2.6)
abbrev pub special_length : ℕ → UnsignedField
special_length opcode = record { at = 0; size = opcode - 238 }

-- ---- a selection: the font's number in as many bytes as its opcode tells

-- how many, of fnt1 (235) to fnt4 (rule 2.6)
abbrev pub selection_number_size : ℕ → ℕ
selection_number_size opcode = opcode - 234

-- ---- a font definition: the font's number in as many bytes as its opcode tells, then check sum, two sizes, two lengths, and the name

-- how many, of fnt_def1 (243) to fnt_def4 (rule 2.6)
abbrev pub definition_number_size : ℕ → ℕ
definition_number_size opcode = opcode - 242

-- c, the check sum; this and the others are counted from after the font's number (rule 2.6)
abbrev pub definition_checksum : UnsignedField
definition_checksum = record { at = 0; size = 4 }

-- s, the scale (rule 2.6)
abbrev pub definition_scale : UnsignedField
definition_scale = record { at = 4; size = 4 }

-- d, the design size (rule 2.6)
abbrev pub definition_design_size : UnsignedField
definition_design_size = record { at = 8; size = 4 }

-- a, how long the area is, the first part of the name (rule 2.6)
abbrev pub definition_area_length : UnsignedField
definition_area_length = record { at = 12; size = 1 }

-- l, how long the rest of the name is (rule 2.6)
abbrev pub definition_name_length : UnsignedField
definition_name_length = record { at = 13; size = 1 }

-- where the name starts (rule 2.6)
abbrev pub definition_name : ℕ
definition_name = 14
