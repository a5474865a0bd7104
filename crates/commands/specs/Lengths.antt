-- How many parameter bytes a command has: what the table gives for its opcode, and what lengths inside the command, read without a sign, add.
-- Assumes nothing.
use Rattle.std.specs.Prelude.{ℕ, ◌+◌, ◌-◌, cond, List, [], ◌∷◌, ◌++◌, ltb, get_or, drop}
use Rattle.commands.specs.declared.Kind.TheVariants.{Special, Define, Pre}
use Rattle.commands.specs.Kinds.{Row, rows, kind_of, is}
use Rattle.commands.specs.Fields.{unsigned_in, pre_comment_length, special_length, definition_area_length, definition_name_length}
use Rattle.commands.specs.Parameters.{definition}

-- what rows say of their opcodes, one after the other (rule 2.3)
abbrev pub lengths_in : List Row → List ℕ
lengths_in [] = []
lengths_in (r ∷ others) = r.fixed ++ lengths_in others

-- the table of 122 lengths, of the opcodes from 128 on (rule 2.3)
unfoldable pub lengths : List ℕ
lengths = drop 128 (lengths_in rows)

-- the parameter bytes that the table gives; opcodes 0 to 127 have none (rule 2.3)
unfoldable pub fixed_length : ℕ → ℕ
unfolding lengths
fixed_length opcode = cond (ltb opcode 128) 0 (get_or lengths (opcode - 128) 0)

-- what the lengths inside a command add: of a special's text, of the two parts of a font's name, of the comment in pre (rule 2.4)
unfoldable pub inner_length : ℕ → List ℕ → ℕ
inner_length opcode params =
    cond (is (kind_of opcode) Special) (unsigned_in (special_length opcode) params)
    (cond (is (kind_of opcode) Define) (unsigned_in definition_area_length (definition opcode params) + unsigned_in definition_name_length (definition opcode params))
    (cond (is (kind_of opcode) Pre) (unsigned_in pre_comment_length params) 0))

-- how long the parameters are of which `params` has the first bytes (rule 2.4)
unfoldable pub size_of : ℕ → List ℕ → ℕ
size_of opcode params = fixed_length opcode + inner_length opcode params
