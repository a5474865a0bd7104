-- A page whose definitions are left out, whose commands stand at other places and which has another number places the same, renumbered. Assumes nothing.
use Prim.Native.Nat.{ℕ}
use mathlib.Core.Path.{◌≡◌, refl, sym, ap, ◌∙◌}
use mathlib.Core.Bool.{Bool, true, false, cond}
use mathlib.Core.List.{List, [], ◌∷◌}
use lib.IntN.{ℤ, ◌+ℤ◌}
use Rattle.refusals.specs.Answer.{Answer, refused, given, and_then}
use Rattle.units.specs.Rounding.{rounded_up}
use Rattle.scaling.specs.Scaling.{scaled_by}
use Rattle.widths.specs.LookUp.{LookUp, found, absent}
use Rattle.commands.specs.declared.Kind.{Kind}
use Rattle.commands.specs.Commands.{Command, kind_of_command}
use Rattle.commands.specs.Parameters.{character_code, distance, rule_height, rule_width, selected_font}
use Rattle.list.specs.Past.{is_a, Definition, none, stands, definition_of}
use Rattle.list.proofs.Arms.{is_kind}
use Rattle.state.specs.declared.Font.{Font}
use Rattle.state.specs.declared.moving.Direction.{Direction}
use Rattle.state.specs.declared.moving.Stride.TheVariants as Stride
use Rattle.state.specs.declared.registers.Register.{Register}
use Rattle.state.specs.Moving.{leaves}
use Rattle.state.specs.Registers.{State, spot_of, moved_by, register_of, direction_of}
use Rattle.placements.specs.Records.{rule_record, Added, nothing, placed, missing, special}
use Rattle.turns.specs.Placing.{Located, Setting, font_by, Outcome, continues, leaves_range, with_numbers, set_character, put_character, is_visible, rule_added, plain_move, distance_or, register_move, after_kind, after, Contents, adding, on_outcome, placing}
use Rattle.rewritten.specs.Unplaced.{unplaced}
use Rattle.rewritten.specs.Renumbered.{record_on, renumbered}

-- a page's commands without its definitions, each at another place
abbrev pub moved_commands : (ℕ → ℕ) → List Located → List Located
moved_commands moved [] = []
moved_commands moved (c ∷ rest) =
    cond (is_a Kind.Define c.command) (moved_commands moved rest) (record { at = moved c.at; command = c.command } ∷ moved_commands moved rest)

-- ---- one command

-- what a command adds, on another page
abbrev added_on : ℕ → Added → Added
added_on page nothing = nothing
added_on page (placed r) = placed (record_on page r)
added_on page missing = missing
added_on page special = special

-- what a command comes to, on another page
abbrev outcome_on : ℕ → Outcome → Outcome
outcome_on page (continues s added) = continues s (added_on page added)
outcome_on page leaves_range = leaves_range

-- a definition on a page does nothing
pub define_quiet : (setting : Setting) (s : State) (c : Command) → is_a Kind.Define c ≡ true → after setting s c ≡ continues s nothing
unfolding after
define_quiet setting s c e = ap (λ (k : Kind). after_kind k setting s c) (is_kind (kind_of_command c) Kind.Define e)

-- a font is the same by its definition at another place
font_unplaced : (number : ℤ) (one other : Definition) → unplaced one ≡ unplaced other → font_by number one ≡ font_by number other
font_unplaced number one other e = plain one ∙ ap (font_by number) e ∙ sym (plain other)
  where
    plain : (d : Definition) → font_by number d ≡ font_by number (unplaced d)
    plain none = refl
    plain (stands at c) = refl

module _ (setting : Setting) (volume : List Command) (page : ℕ)
    (fonts : (number : ℤ) → unplaced (definition_of false number volume) ≡ unplaced (definition_of false number setting.volume)) where
  -- the same but for a volume with the same fonts, and the page's number
  abbrev pub renumbered_setting : Setting
  renumbered_setting = record { ruler = setting.ruler; look = setting.look; volume = volume; page = page }

  -- where h or v would leave its range both say so
  unless : (t : Bool) (o other : Outcome) → o ≡ outcome_on page other → cond t leaves_range o ≡ outcome_on page (cond t leaves_range other)
  unless true o other e = refl
  unless false o other e = e

  module _ (s : State) where
    rules : (height width : ℤ) → rule_added renumbered_setting s height width ≡ added_on page (rule_added setting s height width)
    rules height width = by (is_visible height width)
      where
        rule_on : ℕ → Added
        rule_on number = placed (rule_record number s.level (rounded_up setting.ruler.k height) (rounded_up setting.ruler.k width))

        by : (t : Bool) → cond t (rule_on page) nothing ≡ added_on page (cond t (rule_on setting.page) nothing)
        by true = refl
        by false = refl

    puts : (code : ℤ) (l : LookUp) → put_character renumbered_setting s code l ≡ outcome_on page (put_character setting s code l)
    puts code absent = refl
    puts code (found m) = refl

    sets : (code : ℤ) (l : LookUp) → set_character renumbered_setting s code l ≡ outcome_on page (set_character setting s code l)
    sets code absent = refl
    sets code (found m) = unless (leaves (s.level.h +ℤ scaled_by s.font.scale m.width)) _ _ refl

    moves : (direction : Direction) (params : List ℕ) → plain_move direction renumbered_setting s params ≡ outcome_on page (plain_move direction setting s params)
    moves direction params = unless (leaves ((spot_of direction s.level).position +ℤ distance params)) _ _ refl

    register_moves : (register : Register) (params : List ℕ)
        → register_move register renumbered_setting s params ≡ outcome_on page (register_move register setting s params)
    register_moves register params =
        unless (leaves ((spot_of (direction_of register) s.level).position +ℤ distance_or (register_of register s.level) params)) _ _ refl

    by_kind : (c : Command) (k : Kind) → after_kind k renumbered_setting s c ≡ outcome_on page (after_kind k setting s c)
    by_kind c Kind.SetCharacter = sets (character_code c.opcode c.params) (setting.look s.font (character_code c.opcode c.params))
    by_kind c Kind.SetRule =
        let width = rule_width c.params in
        unless (leaves (s.level.h +ℤ width)) _ _
        (ap (continues (with_numbers s (moved_by Direction.Sideways Stride.RoundedUp setting.ruler s.font.scale width s.level))) (rules (rule_height c.params) width))
    by_kind c Kind.PutCharacter = puts (character_code c.opcode c.params) (setting.look s.font (character_code c.opcode c.params))
    by_kind c Kind.PutRule = ap (continues s) (rules (rule_height c.params) (rule_width c.params))
    by_kind c Kind.Nop = refl
    by_kind c Kind.Bop = refl
    by_kind c Kind.Eop = refl
    by_kind c Kind.Push = refl
    by_kind c Kind.Pop = refl
    by_kind c Kind.Right = moves Direction.Sideways c.params
    by_kind c Kind.W = register_moves Register.W c.params
    by_kind c Kind.X = register_moves Register.X c.params
    by_kind c Kind.Down = moves Direction.Down c.params
    by_kind c Kind.Y = register_moves Register.Y c.params
    by_kind c Kind.Z = register_moves Register.Z c.params
    by_kind c Kind.Select =
        let number = selected_font c.opcode c.params in
        ap (λ (f : Font). continues (record { level = s.level; saved = s.saved; font = f }) nothing)
        (font_unplaced number (definition_of false number volume) (definition_of false number setting.volume) (fonts number))
    by_kind c Kind.Special = refl
    by_kind c Kind.Define = refl
    by_kind c Kind.Pre = refl
    by_kind c Kind.Post = refl
    by_kind c Kind.PostPost = refl
    by_kind c Kind.Undefined = refl

  -- ---- the list of commands

  module _ (moved : ℕ → ℕ) where
    -- nothing added
    then_same : (x : Answer Contents) → and_then x (λ p. given (adding nothing p)) ≡ x
    then_same (refused number place) = refl
    then_same (given p) = refl

    then_renumbered : (added : Added) (x : Answer Contents)
        → and_then (renumbered page moved x) (λ p. given (adding (added_on page added) p)) ≡ renumbered page moved (and_then x (λ p. given (adding added p)))
    then_renumbered added (refused number place) = refl
    then_renumbered nothing (given p) = refl
    then_renumbered (placed r) (given p) = refl
    then_renumbered missing (given p) = refl
    then_renumbered special (given p) = refl

    on_renumbered : (at : ℕ) (o other : Outcome) (next later : State → Answer Contents) → o ≡ outcome_on page other
        → ((s : State) → next s ≡ renumbered page moved (later s))
        → on_outcome (moved at) o next ≡ renumbered page moved (on_outcome at other later)
    on_renumbered at o leaves_range next later e same = ap (λ (x : Outcome). on_outcome (moved at) x next) e
    on_renumbered at o (continues s added) next later e same =
        ap (λ (x : Outcome). on_outcome (moved at) x next) e
        ∙ ap (λ (x : Answer Contents). and_then x (λ p. given (adding (added_on page added) p))) (same s)
        ∙ then_renumbered added (later s)

    -- the page places the same, renumbered
    pub places_renumbered : (s : State) (cs : List Located) → placing renumbered_setting s (moved_commands moved cs) ≡ renumbered page moved (placing setting s cs)
    unfolding placing after
    places_renumbered s [] = refl
    places_renumbered s (c ∷ rest) = by (is_a Kind.Define c.command) refl (λ next. places_renumbered next rest)
      where
        by : (t : Bool) → is_a Kind.Define c.command ≡ t
            → ((next : State) → placing renumbered_setting next (moved_commands moved rest) ≡ renumbered page moved (placing setting next rest))
            → placing renumbered_setting s (cond t (moved_commands moved rest) (record { at = moved c.at; command = c.command } ∷ moved_commands moved rest))
            ≡ renumbered page moved (on_outcome c.at (after setting s c.command) (λ next. placing setting next rest))
        by true e later =
            later s
            ∙ ap (renumbered page moved) (sym (then_same (placing setting s rest)))
            ∙ ap (λ (o : Outcome). renumbered page moved (on_outcome c.at o (λ next. placing setting next rest))) (sym (define_quiet setting s c.command e))
        by false e later =
            on_renumbered c.at (after renumbered_setting s c.command) (after setting s c.command) _ _ (by_kind s c.command (kind_of_command c.command)) later
