-- What the code's own steps give and keep; no promise cites this. Assumes nothing.
use Rattle.std.specs.Prelude.{ℕ, ◌+◌, ◌<◌, ◌≤◌, ◌^◌, ◌≡◌, Bool, true, false, cond, ◌||◌, List, length, drop, ℤ, nat_abs, ◌+ℤ◌}
use Rattle.units.specs.Rounding.{rounded_up}
use Rattle.names.specs.Names.{name_number, any_name}
use Rattle.names.specs.Steps.{InEights}
use Rattle.scaling.specs.Steps.{sixteenfold_of}
use Rattle.widths.specs.declared.table.Widths.{Widths}
use Rattle.widths.specs.Steps.{BlockIs}
use Rattle.commands.specs.declared.Kind.{Kind}
use Rattle.commands.specs.Kinds.{is}
use Rattle.commands.specs.Commands.{Command, kind_of_command, whole, front}
use Rattle.commands.specs.Parameters.{distance, rule_height, rule_width}
use Rattle.state.specs.declared.Level.{Level}
use Rattle.state.specs.declared.Font.{Font}
use Rattle.state.specs.declared.moving.Direction.{Direction}
use Rattle.state.specs.declared.moving.Stride.TheVariants as Stride
use Rattle.state.specs.declared.registers.Register.{Register}
use Rattle.state.specs.Moving.{leaves}
use Rattle.state.specs.Registers.{State, pushed, popped, spot_of, moved_by, character_moved, register_of, direction_of, moved_by_register}
use Rattle.turns.specs.declared.Kept.{Kept}
use Rattle.turns.specs.declared.Terms.{Terms}
use Rattle.placements.specs.declared.Adds.{Adds}
use Rattle.turns.specs.declared.Turn.{Turn}
use Rattle.turns.specs.declared.Asked.{Asked}
use Rattle.turns.specs.declared.Step.{Step}
use Rattle.placements.specs.Records.{rule_record, Added, nothing, placed}
use Rattle.placements.specs.Steps.{added_of, AddsInWords}
use Rattle.turns.specs.Placing.{Setting, Outcome, continues, leaves_range, with_numbers, font_of, look_in, set_character, put_character, is_visible, distance_or, after}
use Rattle.turns.specs.Blocks.{Frame, opening, closing, ending, inside, frame_of}

-- a font that a selection may leave
pub record Known (font : Font) : Type 0 where
  pub checksum_small : font.checksum < 2 ^ 32
  pub scale_small : font.scale ≤ 134217727
  pub name_in : InEights font.name

-- what is kept for a font: the sixteenfold of its scale, and where the table's records of its own name and for any name stand
pub record KeptFor (widths : Widths) (font : Font) (kept : Kept) : Type 0 where
  pub sixteenfold_is : kept.sixteenfold ≡ sixteenfold_of font.scale
  pub own_is : BlockIs widths.bytes.now widths.records font.checksum font.scale (name_number font.name) kept.own
  pub any_is : BlockIs widths.bytes.now widths.records font.checksum font.scale (name_number any_name) kept.any

-- a state of these
abbrev pub state_with : Level → List Level → Font → State
state_with level saved font = record { level = level; saved = saved; font = font }

-- the outcome of what the code says that a command does and adds
abbrev pub did : Setting → State → Turn → Adds → Outcome
did setting s Turn.Stay adds = continues s (added_of adds)
did setting s (Turn.Sideways stride n) adds = continues (with_numbers s (moved_by Direction.Sideways stride setting.ruler s.font.scale n s.level)) (added_of adds)
did setting s (Turn.Down n) adds = continues (with_numbers s (moved_by Direction.Down Stride.Rounded setting.ruler s.font.scale n s.level)) (added_of adds)
did setting s (Turn.ByRegister register n) adds = continues (with_numbers s (moved_by_register register Stride.Rounded setting.ruler s.font.scale n s.level)) (added_of adds)
did setting s (Turn.PastCharacter width escapement) adds = continues (with_numbers s (character_moved setting.ruler width escapement s.level)) (added_of adds)
did setting s Turn.Push adds = continues (pushed s) (added_of adds)
did setting s Turn.Pop adds = continues (popped s) (added_of adds)
did setting s (Turn.Select number) adds = continues (record { level = s.level; saved = s.saved; font = font_of setting number }) (added_of adds)
did setting s Turn.End adds = continues s (added_of adds)
did setting s Turn.Leave adds = leaves_range

-- a move by n in a direction from a level stays in range
abbrev pub Stays : Direction → Level → ℤ → Type 0
Stays direction level n = (nat_abs n ≤ 2 ^ 31) × (leaves ((spot_of direction level).position +ℤ n) ≡ false)

-- what the page's methods need of a turn
abbrev pub Safe : Level → Turn → Type 0
Safe now Turn.Stay = Unit {0}
Safe now (Turn.Sideways stride n) = Stays Direction.Sideways now n
Safe now (Turn.Down n) = Stays Direction.Down now n
Safe now (Turn.ByRegister register n) = Stays (direction_of register) now n
Safe now (Turn.PastCharacter width escapement) = Stays Direction.Sideways now width × (nat_abs escapement ≤ 2 ^ 31)
Safe now Turn.Push = Unit {0}
Safe now Turn.Pop = Unit {0}
Safe now (Turn.Select number) = nat_abs number ≤ 2 ^ 31
Safe now Turn.End = Unit {0}
Safe now Turn.Leave = Unit {0}

-- what a turn is to the blocks of its page
abbrev pub turn_frame : Turn → Frame
turn_frame Turn.Stay = inside
turn_frame (Turn.Sideways stride n) = inside
turn_frame (Turn.Down n) = inside
turn_frame (Turn.ByRegister register n) = inside
turn_frame (Turn.PastCharacter width escapement) = inside
turn_frame Turn.Push = opening
turn_frame Turn.Pop = closing
turn_frame (Turn.Select number) = inside
turn_frame Turn.End = ending
turn_frame Turn.Leave = inside

-- a turn is to the blocks what its command's kind is
abbrev pub Suits : Kind → Turn → Type 0
Suits kind turn = turn_frame turn ≡ frame_of kind

-- what the code holds, as the setting of the meaning
abbrev pub terms_setting : Terms → List Command → Setting
terms_setting terms volume = record { ruler = terms.ruler; look = look_in terms.widths.bytes.now terms.widths.records; volume = volume; page = terms.page }

-- what is asked comes to an outcome, whatever the levels that are saved
pub record Comes (setting : Setting) (level : Level) (font : Font) (outcome : State → Outcome) (turn : Turn) (adds : Adds) : Type 0 where
  pub does : (saved : List Level) → did setting (state_with level saved font) turn adds ≡ outcome (state_with level saved font)
  pub safe : Safe level turn
  pub words : AddsInWords adds

-- what a character asks, set or put, whatever the volume
abbrev pub CharacterAsks : Terms → Level → Font → Bool → ℤ → Asked → Type 0
CharacterAsks terms level font sets code r =
    (volume : List Command)
    → let setting = terms_setting terms volume in
    Comes setting level font
    (λ s. cond sets (set_character setting s code (setting.look font code)) (put_character setting s code (setting.look font code))) r.turn r.adds
    × (turn_frame r.turn ≡ inside)

-- what a command asks
abbrev pub CommandAsks : Setting → Level → Font → Command → Asked → Type 0
CommandAsks setting level font c r = Comes setting level font (λ s. after setting s c) r.turn r.adds × Suits (kind_of_command c) r.turn

-- what a rule adds
abbrev pub rule_by : Terms → Level → ℤ → ℤ → Added
rule_by terms level height width =
    cond (is_visible height width)
    (placed (rule_record terms.page level (rounded_up terms.ruler.k height) (rounded_up terms.ruler.k width)))
    nothing

-- a turn that moves by n in a direction from a level, unless h or v would leave its range
abbrev pub unless_left : Direction → Level → ℤ → Turn → Turn
unless_left direction level n turn = cond (leaves ((spot_of direction level).position +ℤ n)) Turn.Leave turn

-- the turn of a move by n in a direction, in the rounded stride
abbrev pub rounded_turn : Direction → ℤ → Turn
rounded_turn Direction.Sideways n = Turn.Sideways Stride.Rounded n
rounded_turn Direction.Down n = Turn.Down n

-- the turn of a move by its own distance
abbrev pub plain_turn : Direction → Level → List ℕ → Turn
plain_turn direction level params = let n = distance params in unless_left direction level n (rounded_turn direction n)

-- the turn of a move by a register
abbrev pub register_turn : Register → Level → List ℕ → Turn
register_turn register level params =
    let n = distance_or (register_of register level) params in unless_left (direction_of register) level n (Turn.ByRegister register n)

-- what a rule asks, set or put
pub record RuleAsks (terms : Terms) (level : Level) (sets : Bool) (params : List ℕ) (r : Asked) : Type 0 where
  pub turn_is : r.turn ≡ cond sets (unless_left Direction.Sideways level (rule_width params) (Turn.Sideways Stride.RoundedUp (rule_width params))) Turn.Stay
  pub adds_are : added_of r.adds ≡ rule_by terms level (rule_height params) (rule_width params)
  pub words : AddsInWords r.adds

-- the turn of a command that adds nothing but a turn, by its kind
abbrev pub turn_of : Kind → Level → List ℕ → Turn
turn_of Kind.SetCharacter level params = Turn.Stay
turn_of Kind.SetRule level params = Turn.Stay
turn_of Kind.PutCharacter level params = Turn.Stay
turn_of Kind.PutRule level params = Turn.Stay
turn_of Kind.Nop level params = Turn.Stay
turn_of Kind.Bop level params = Turn.Stay
turn_of Kind.Eop level params = Turn.End
turn_of Kind.Push level params = Turn.Push
turn_of Kind.Pop level params = Turn.Pop
turn_of Kind.Right level params = plain_turn Direction.Sideways level params
turn_of Kind.W level params = register_turn Register.W level params
turn_of Kind.X level params = register_turn Register.X level params
turn_of Kind.Down level params = plain_turn Direction.Down level params
turn_of Kind.Y level params = register_turn Register.Y level params
turn_of Kind.Z level params = register_turn Register.Z level params
turn_of Kind.Select level params = Turn.Stay
turn_of Kind.Special level params = Turn.Stay
turn_of Kind.Define level params = Turn.Stay
turn_of Kind.Pre level params = Turn.Stay
turn_of Kind.Post level params = Turn.Stay
turn_of Kind.PostPost level params = Turn.Stay
turn_of Kind.Undefined level params = Turn.Stay

-- a command of an opcode and its parameters
abbrev pub command : ℕ → List ℕ → Command
command opcode params = record { opcode = opcode; params = params }

-- a move's distance has at most four bytes
abbrev pub is_move : Kind → Bool
is_move kind = is kind Kind.Right || (is kind Kind.W || (is kind Kind.X || (is kind Kind.Down || (is kind Kind.Y || is kind Kind.Z))))

-- of a move's parameters
abbrev pub MoveFits : Kind → List ℕ → Type 0
MoveFits kind params = is_move kind ≡ true → length params ≤ 4

-- what the command at a place asks, and the place after it
abbrev pub StepAsks : List ℕ → ℕ → Setting → Level → Font → Step → Type 0
StepAsks file place setting level font r =
    (c : Command) (rest : List ℕ) → front (drop place file) ≡ whole c rest
    → CommandAsks setting level font c r.asked × (r.next ≡ place + (1 + length c.params))
