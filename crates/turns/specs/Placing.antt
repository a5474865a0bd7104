-- What each command of a page does to its state and adds to its records, and what the page's list of commands comes to. Assumes nothing.
use Rattle.std.specs.Prelude.{ℕ, ◌+◌, Bool, false, cond, ◌&&◌, List, [], ◌∷◌, eqb, length, ℤ, pos, nat_abs, ◌+ℤ◌}
use Rattle.std.specs.Int.Signed.{lt_z}
use Rattle.refusals.specs.Numbers.{position_out_of_range}
use Rattle.refusals.specs.Answer.{Answer, refused, given, and_then}
use Rattle.units.specs.Rounding.{rounded_up}
use Rattle.scaling.specs.Scaling.{scaled_by}
use Rattle.names.specs.Names.{name_number, sought_name}
use Rattle.widths.specs.LookUp.{LookUp, found, absent, code_byte, looked_for}
use Rattle.commands.specs.declared.Kind.{Kind}
use Rattle.commands.specs.declared.Kind.TheVariants.{SetCharacter, SetRule, PutCharacter, PutRule, Nop, Bop, Eop, Push, Pop, Right, W, X, Down, Y, Z, Select, Special, Define, Pre, Post, PostPost, Undefined}
use Rattle.commands.specs.Commands.{Command, kind_of_command}
use Rattle.commands.specs.Parameters.{character_code, distance, rule_height, rule_width, selected_font, font_checksum, font_scale, font_name}
use Rattle.list.specs.Past.{body, Definition, none, stands, definition_of}
use Rattle.state.specs.declared.Level.{Level}
use Rattle.state.specs.declared.Font.{Font}
use Rattle.state.specs.declared.moving.Direction.{Direction}
use Rattle.state.specs.declared.moving.Stride.TheVariants as Stride
use Rattle.state.specs.declared.moving.Ruler.{Ruler}
use Rattle.state.specs.Moving.{leaves}
use Rattle.state.specs.declared.registers.Register.{Register}
use Rattle.state.specs.Registers.{State, unselected, pushed, popped, spot_of, moved_by, character_moved, register_of, direction_of, moved_by_register}
use Rattle.placements.specs.declared.Record.{Record}
use Rattle.placements.specs.Records.{character_record, rule_record, Added, nothing, placed, missing, special}

-- a command with the place of its opcode (rule 3.1)
pub record Located : Type 0 where
  pub at : ℕ
  pub command : Command

-- what a page is placed by: K and D, what is found for a font's character, the volume's commands, and the page's number (rule 9.8)
pub record Setting : Type 0 where
  pub ruler : Ruler
  pub look : Font → ℤ → LookUp
  pub volume : List Command
  pub page : ℕ

-- ---- fonts

-- a font by its definition; where none is, 8 was due (rule 7.10)
abbrev pub font_by : ℤ → Definition → Font
font_by number none = unselected
font_by number (stands at c) =
    record { number = nat_abs number; checksum = font_checksum (body c); scale = font_scale (body c); name = sought_name (font_name (body c)) }

-- a font of the volume, by its definition before post (rule 7.10)
abbrev pub font_of : Setting → ℤ → Font
font_of setting number = font_by number (definition_of false number setting.volume)

-- a font's character looked up in a table of so many records, by the name that the font seeks (rules 6.8, 6.10)
abbrev pub look_in : List ℕ → ℕ → Font → ℤ → LookUp
look_in table records font code = looked_for records table font.checksum font.scale (name_number font.name) (code_byte code)

-- ---- what a command comes to

-- the next state and what is added, or that h or v would leave its range (rules 8.3, 7.5)
pub data Outcome : Type 0 where
  continues : State → Added → Outcome
  leaves_range : Outcome

-- the state with other numbers (rule 7.1)
abbrev pub with_numbers : State → Level → State
with_numbers s level = record { level = level; saved = s.saved; font = s.font }

-- the outcome of a move by n in a direction that leads to a level: the position it would reach must be in range (rule 7.5)
abbrev pub moves_to : Direction → State → ℤ → Level → Added → Outcome
moves_to direction s n level added = cond (leaves ((spot_of direction s.level).position +ℤ n)) leaves_range (continues (with_numbers s level) added)

-- a character that is set: its record, and a move past it; one that the table lacks moves nothing and is missing (rules 7.6, 7.7)
abbrev pub set_character : Setting → State → ℤ → LookUp → Outcome
set_character setting s code absent = continues s missing
set_character setting s code (found m) =
    let width = scaled_by s.font.scale m.width in
    moves_to Direction.Sideways s width (character_moved setting.ruler width m.escapement s.level)
    (placed (character_record setting.page s.level s.font code m.escapement))

-- a character that is put: its record, and no move (rules 7.6, 7.7)
abbrev pub put_character : Setting → State → ℤ → LookUp → Outcome
put_character setting s code absent = continues s missing
put_character setting s code (found m) = continues s (placed (character_record setting.page s.level s.font code m.escapement))

-- a rule both of whose sides are above 0 (rule 7.8)
abbrev pub is_visible : ℤ → ℤ → Bool
is_visible height width = lt_z (pos 0) height && lt_z (pos 0) width

-- a rule's record, its sides rounded up (rule 7.8)
abbrev pub rule_added : Setting → State → ℤ → ℤ → Added
rule_added setting s height width =
    cond (is_visible height width)
    (placed (rule_record setting.page s.level (rounded_up setting.ruler.k height) (rounded_up setting.ruler.k width)))
    nothing

-- a rule that is set moves by its width, in the stride that is rounded up, whether it gives a record or not (rule 7.8)
abbrev pub set_rule : Setting → State → ℤ → ℤ → Outcome
set_rule setting s height width =
    moves_to Direction.Sideways s width (moved_by Direction.Sideways Stride.RoundedUp setting.ruler s.font.scale width s.level)
    (rule_added setting s height width)

-- a move sideways or down by its own distance, in the rounded stride (rule 7.9)
abbrev pub plain_move : Direction → Setting → State → List ℕ → Outcome
plain_move direction setting s params =
    let n = distance params in moves_to direction s n (moved_by direction Stride.Rounded setting.ruler s.font.scale n s.level) nothing

-- w0, x0, y0, z0 have no distance of their own and take the register's (rule 7.9)
abbrev pub distance_or : ℤ → List ℕ → ℤ
distance_or register params = cond (eqb (length params) 0) register (distance params)

-- a move by a register, which is set to the distance, in the rounded stride (rule 7.9)
abbrev pub register_move : Register → Setting → State → List ℕ → Outcome
register_move register setting s params =
    let n = distance_or (register_of register s.level) params in
    moves_to (direction_of register) s n (moved_by_register register Stride.Rounded setting.ruler s.font.scale n s.level) nothing

-- by its kind; bop, eop and what stands outside pages are none of a page's own commands (section 7 of the rules)
abbrev pub after_kind : Kind → Setting → State → Command → Outcome
after_kind SetCharacter setting s c =
    set_character setting s (character_code c.opcode c.params) (setting.look s.font (character_code c.opcode c.params))
after_kind SetRule setting s c = set_rule setting s (rule_height c.params) (rule_width c.params)
after_kind PutCharacter setting s c =
    put_character setting s (character_code c.opcode c.params) (setting.look s.font (character_code c.opcode c.params))
after_kind PutRule setting s c = continues s (rule_added setting s (rule_height c.params) (rule_width c.params))
after_kind Nop setting s c = continues s nothing
after_kind Bop setting s c = continues s nothing
after_kind Eop setting s c = continues s nothing
after_kind Push setting s c = continues (pushed s) nothing
after_kind Pop setting s c = continues (popped s) nothing
after_kind Right setting s c = plain_move Direction.Sideways setting s c.params
after_kind W setting s c = register_move Register.W setting s c.params
after_kind X setting s c = register_move Register.X setting s c.params
after_kind Down setting s c = plain_move Direction.Down setting s c.params
after_kind Y setting s c = register_move Register.Y setting s c.params
after_kind Z setting s c = register_move Register.Z setting s c.params
after_kind Select setting s c =
    continues (record { level = s.level; saved = s.saved; font = font_of setting (selected_font c.opcode c.params) }) nothing
after_kind Special setting s c = continues s special
after_kind Define setting s c = continues s nothing
after_kind Pre setting s c = continues s nothing
after_kind Post setting s c = continues s nothing
after_kind PostPost setting s c = continues s nothing
after_kind Undefined setting s c = continues s nothing

-- what a command does to the page's state, and what it adds (rule 8.3)
unfoldable pub after : Setting → State → Command → Outcome
after setting s c = after_kind (kind_of_command c) setting s c

-- ---- what the page's list comes to

-- its placements, in the order of their commands, and how many missing characters and specials (rule 8.3)
pub record Contents : Type 0 where
  pub placements : List Record
  pub missing_characters : ℕ
  pub specials : ℕ

-- with what a command before them adds (rule 8.3)
abbrev pub adding : Added → Contents → Contents
adding nothing p = p
adding (placed r) p = record { placements = r ∷ p.placements; missing_characters = p.missing_characters; specials = p.specials }
adding missing p = record { placements = p.placements; missing_characters = p.missing_characters + 1; specials = p.specials }
adding special p = record { placements = p.placements; missing_characters = p.missing_characters; specials = p.specials + 1 }

-- 16 at a command's place, or what it adds before what follows (rules 7.5, 8.3)
abbrev pub on_outcome : ℕ → Outcome → (State → Answer Contents) → Answer Contents
on_outcome place leaves_range next = refused position_out_of_range place
on_outcome place (continues s added) next = and_then (next s) (λ p. given (adding added p))

-- the commands one after the other, from a state on (rule 8.3)
unfoldable pub placing : Setting → State → List Located → Answer Contents
placing setting s [] = given (record { placements = []; missing_characters = 0; specials = 0 })
placing setting s (c ∷ rest) = on_outcome c.at (after setting s c.command) (λ next. placing setting next rest)
