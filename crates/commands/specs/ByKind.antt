-- Opcodes and parameter lengths, kind by kind. What the laws on kinds are stated with; the meaning has them by opcode. Assumes nothing.
use Rattle.std.specs.Prelude.{ℕ, ◌-◌}
use Rattle.commands.specs.declared.Kind.{Kind}
use Rattle.commands.specs.declared.Kind.TheVariants.{SetCharacter, SetRule, PutCharacter, PutRule, Nop, Bop, Eop, Push, Pop, Right, W, X, Down, Y, Z, Select, Special, Define, Pre, Post, PostPost, Undefined}

-- the first and the last opcode of a kind (the table of section 2 of the rules)
abbrev pub bounds : Kind → ℕ × ℕ
bounds SetCharacter = (0, 131)
bounds SetRule = (132, 132)
bounds PutCharacter = (133, 136)
bounds PutRule = (137, 137)
bounds Nop = (138, 138)
bounds Bop = (139, 139)
bounds Eop = (140, 140)
bounds Push = (141, 141)
bounds Pop = (142, 142)
bounds Right = (143, 146)
bounds W = (147, 151)
bounds X = (152, 156)
bounds Down = (157, 160)
bounds Y = (161, 165)
bounds Z = (166, 170)
bounds Select = (171, 238)
bounds Special = (239, 242)
bounds Define = (243, 246)
bounds Pre = (247, 247)
bounds Post = (248, 248)
bounds PostPost = (249, 249)
bounds Undefined = (250, 255)

-- the first one
abbrev pub first : Kind → ℕ
first k = (bounds k).0

-- the last one
abbrev pub last : Kind → ℕ
last k = (bounds k).1

-- the parameter bytes of an opcode of a kind without those that a length inside counts (rule 2.3); a difference is 0 where it would be negative
abbrev pub fixed_by : Kind → ℕ → ℕ
fixed_by SetCharacter opcode = opcode - 127
fixed_by SetRule opcode = 8
fixed_by PutCharacter opcode = opcode - 132
fixed_by PutRule opcode = 8
fixed_by Nop opcode = 0
fixed_by Bop opcode = 44
fixed_by Eop opcode = 0
fixed_by Push opcode = 0
fixed_by Pop opcode = 0
fixed_by Right opcode = opcode - 142
fixed_by W opcode = opcode - 147
fixed_by X opcode = opcode - 152
fixed_by Down opcode = opcode - 156
fixed_by Y opcode = opcode - 161
fixed_by Z opcode = opcode - 166
fixed_by Select opcode = opcode - 234
fixed_by Special opcode = opcode - 238
fixed_by Define opcode = opcode - 228
fixed_by Pre opcode = 14
fixed_by Post opcode = 28
fixed_by PostPost opcode = 5
fixed_by Undefined opcode = 0
