-- The kinds of commands and the lengths of their parameters: one table, in appendix A's order. Assumes nothing.
use Rattle.std.specs.Prelude.{ℕ, ◌-◌, Bool, cond, List, [], ◌∷◌, ◌++◌, ltb, eqb, length, replicate}
use Rattle.commands.specs.declared.Kind.{Kind}
use Rattle.commands.specs.declared.Kind.TheVariants.{SetCharacter, SetRule, PutCharacter, PutRule, Nop, Bop, Eop, Push, Pop, Right, W, X, Down, Y, Z, Select, Special, Define, Pre, Post, PostPost, Undefined}

-- a kind, and for each of its opcodes, which stand together, how many parameter bytes it has without what lengths inside the command add (rules 2.2, 2.3)
pub record Row : Type 0 where
  pub kind : Kind
  pub fixed : List ℕ

-- a row of the table (rule 2.2)
abbrev pub row : Kind → List ℕ → Row
row kind fixed = record { kind = kind; fixed = fixed }

-- four opcodes with a number of one to four bytes (rule 2.3)
abbrev pub one_to_four : List ℕ
one_to_four = 1 ∷ 2 ∷ 3 ∷ 4 ∷ []

-- all rows, each with the opcodes that it has (rules 2.2, 2.3)
abbrev pub rows : List Row
rows =
    row SetCharacter (replicate 128 0 ++ one_to_four)  -- 0 to 127 are set_char_0 to set_char_127, 128 to 131 are set1 to set4
    ∷ row SetRule (8 ∷ [])  -- 132
    ∷ row PutCharacter one_to_four  -- 133 to 136, put1 to put4
    ∷ row PutRule (8 ∷ [])  -- 137
    ∷ row Nop (0 ∷ [])  -- 138
    ∷ row Bop (44 ∷ [])  -- 139
    ∷ row Eop (0 ∷ [])  -- 140
    ∷ row Push (0 ∷ [])  -- 141
    ∷ row Pop (0 ∷ [])  -- 142
    ∷ row Right one_to_four  -- 143 to 146, right1 to right4
    ∷ row W (0 ∷ one_to_four)  -- 147 to 151, w0 to w4
    ∷ row X (0 ∷ one_to_four)  -- 152 to 156, x0 to x4
    ∷ row Down one_to_four  -- 157 to 160, down1 to down4
    ∷ row Y (0 ∷ one_to_four)  -- 161 to 165, y0 to y4
    ∷ row Z (0 ∷ one_to_four)  -- 166 to 170, z0 to z4
    ∷ row Select (replicate 64 0 ++ one_to_four)  -- 171 to 234 are fnt_num_0 to fnt_num_63, 235 to 238 are fnt1 to fnt4
    ∷ row Special one_to_four  -- 239 to 242, xxx1 to xxx4, without the text
    ∷ row Define (15 ∷ 16 ∷ 17 ∷ 18 ∷ [])  -- 243 to 246, fnt_def1 to fnt_def4, without the name
    ∷ row Pre (14 ∷ [])  -- 247, without the comment
    ∷ row Post (28 ∷ [])  -- 248
    ∷ row PostPost (5 ∷ [])  -- 249
    ∷ []

-- the kind of the row in which an opcode falls, where the first row starts at 0 (rule 2.2)
abbrev pub kind_in : List Row → ℕ → Kind
kind_in [] opcode = Undefined
kind_in (r ∷ others) opcode = cond (ltb opcode (length r.fixed)) r.kind (kind_in others (opcode - length r.fixed))

-- the kind of an opcode; those from 250 on are of no command (rule 2.2)
unfoldable pub kind_of : ℕ → Kind
kind_of opcode = kind_in rows opcode

-- the first opcode of a kind (rule 2.2)
abbrev pub first_opcode : Kind → ℕ
first_opcode SetCharacter = 0
first_opcode SetRule = 132
first_opcode PutCharacter = 133
first_opcode PutRule = 137
first_opcode Nop = 138
first_opcode Bop = 139
first_opcode Eop = 140
first_opcode Push = 141
first_opcode Pop = 142
first_opcode Right = 143
first_opcode W = 147
first_opcode X = 152
first_opcode Down = 157
first_opcode Y = 161
first_opcode Z = 166
first_opcode Select = 171
first_opcode Special = 239
first_opcode Define = 243
first_opcode Pre = 247
first_opcode Post = 248
first_opcode PostPost = 249
first_opcode Undefined = 250

-- whether two kinds are the same (rule 2.2)
abbrev pub is : Kind → Kind → Bool
is one other = eqb (first_opcode one) (first_opcode other)
