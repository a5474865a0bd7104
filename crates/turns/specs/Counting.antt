-- The commands of a page that make records, are missing characters or specials: what the counts are tied to. Assumes nothing.
use Rattle.std.specs.Prelude.{ℕ, zero, suc, ◌≡◌, Bool, true, false, cond, not, ◌&&◌, ◌||◌, List, [], ◌∷◌, ℤ, pos}
use Rattle.units.specs.Rounding.{rounded_up}
use Rattle.widths.specs.LookUp.{LookUp, found, absent}
use Rattle.commands.specs.declared.Kind.TheVariants.{SetCharacter, SetRule, PutCharacter, PutRule, Select, Special}
use Rattle.commands.specs.Commands.{Command}
use Rattle.commands.specs.Parameters.{character_code, rule_height, rule_width, selected_font}
use Rattle.list.specs.Past.{is_a}
use Rattle.state.specs.declared.Font.{Font}
use Rattle.state.specs.Registers.{State}
use Rattle.placements.specs.declared.Record.{Record}
use Rattle.turns.specs.Placing.{Located, Setting, font_of, continues, leaves_range, is_visible, after}
use Rattle.placements.specs.Records.{Added}

-- a command and the font that is current at it (rule 7.10)
pub record Seen : Type 0 where
  pub font : Font
  pub command : Command

-- the font that is current after a command: a selection holds until the next one (rule 7.10)
abbrev pub font_after : Setting → Font → Command → Font
font_after setting font c = cond (is_a Select c) (font_of setting (selected_font c.opcode c.params)) font

-- each command of a page with its font, from a font on (rule 7.10)
abbrev pub with_fonts : Setting → Font → List Located → List Seen
with_fonts setting font [] = []
with_fonts setting font (c ∷ rest) = record { font = font; command = c.command } ∷ with_fonts setting (font_after setting font c.command) rest

-- ---- which commands count

-- set_char_0 to set4, and put1 to put4 (rule 2.2)
abbrev pub is_character : Command → Bool
is_character c = is_a SetCharacter c || is_a PutCharacter c

-- set_rule and put_rule (rule 2.2)
abbrev pub is_rule : Command → Bool
is_rule c = is_a SetRule c || is_a PutRule c

-- a character's code, as the command has it (rule 2.6)
abbrev pub code_of : Command → ℤ
code_of c = character_code c.opcode c.params

-- whether the table has a character's record (rule 6.8)
abbrev pub is_found : LookUp → Bool
is_found (found m) = true
is_found absent = false

-- a character that the table has, and one that it has not (rule 7.6)
abbrev pub character_found : Setting → Seen → Bool
character_found setting c = is_character c.command && is_found (setting.look c.font (code_of c.command))

-- a character that the table has not (rule 7.7)
abbrev pub character_missing : Setting → Seen → Bool
character_missing setting c = is_character c.command && not (is_found (setting.look c.font (code_of c.command)))

-- a rule of which neither side is ≤ 0 (rule 7.8)
abbrev pub rule_visible : Seen → Bool
rule_visible c = is_rule c.command && is_visible (rule_height c.command.params) (rule_width c.command.params)

-- a special (rule 7.11)
abbrev pub is_special : Seen → Bool
is_special c = is_a Special c.command

-- those that make a record (rule 8.3)
abbrev pub makes_record : Setting → Seen → Bool
makes_record setting c = rule_visible c || character_found setting c

-- ---- counting and choosing

-- how many of some commands are of a kind (rule 8.3)
abbrev pub count_of : (Seen → Bool) → List Seen → ℕ
count_of counts [] = zero
count_of counts (c ∷ rest) = cond (counts c) (suc (count_of counts rest)) (count_of counts rest)

-- those of a kind, in their order (rule 8.3)
abbrev pub those : (Seen → Bool) → List Seen → List Seen
those chosen [] = []
those chosen (c ∷ rest) = cond (chosen c) (c ∷ those chosen rest) (those chosen rest)

-- ---- what a record says beside its place

-- kind, font, page and the last two fields (rule 8.1)
pub record Said : Type 0 where
  pub kind : ℕ
  pub font : ℕ
  pub page : ℕ
  pub content : ℤ
  pub extent : ℤ

-- of a record (rule 8.1)
abbrev pub said_by : Record → Said
said_by r = record { kind = r.kind; font = r.font; page = r.page; content = r.content; extent = r.extent }

-- the escapement that a look-up found; a character that is absent makes no record (rule 6.8)
abbrev pub escapement_of : LookUp → ℤ
escapement_of (found m) = m.escapement
escapement_of absent = pos 0

-- what the record of a command says: a rule's sides in pixels, a character's font, full code and escapement (rules 7.6, 7.8)
abbrev pub said_of : Setting → Seen → Said
said_of setting c =
    cond (is_rule c.command)
    (record { kind = 2; font = 0; page = setting.page; content = rounded_up setting.ruler.k (rule_height c.command.params); extent = rounded_up setting.ruler.k (rule_width c.command.params) })
    (record { kind = 1; font = c.font.number; page = setting.page; content = code_of c.command; extent = escapement_of (setting.look c.font (code_of c.command)) })

-- ---- a refusal

-- from a state on the commands go well up to one, at this place, at which h or v would leave its range (rule 7.5)
pub data LeavesAt (setting : Setting) (place : ℕ) : State → List Located → Type 0 where
  now : (s : State) (c : Located) (rest : List Located) → after setting s c.command ≡ leaves_range → place ≡ c.at → LeavesAt setting place s (c ∷ rest)
  later : (s : State) (c : Located) (rest : List Located) (next : State) (added : Added) → after setting s c.command ≡ continues next added
      → LeavesAt setting place next rest
      → LeavesAt setting place s (c ∷ rest)
