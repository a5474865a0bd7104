-- Blocks of a page: push, a run of commands, and the pop that belongs to it; what state a run leads to. Assumes nothing.
use Rattle.std.specs.Prelude.{◌≡◌, cond, List, [], ◌∷◌, ◌++◌}
use Rattle.commands.specs.declared.Kind.{Kind}
use Rattle.commands.specs.declared.Kind.TheVariants.{Push, Pop, Eop}
use Rattle.commands.specs.Kinds.{is}
use Rattle.commands.specs.Commands.{Command, kind_of_command}
use Rattle.state.specs.declared.Font.{Font}
use Rattle.state.specs.Registers.{State}
use Rattle.turns.specs.Placing.{Setting, Outcome, continues, leaves_range, after}
use Rattle.turns.specs.Counting.{font_after}

-- what a command is to the blocks of its page: push, pop, eop, or none of these (rule 7.2)
pub data Frame : Type 0 where
  opening : Frame
  closing : Frame
  ending : Frame
  inside : Frame

-- of a kind (rule 7.2)
abbrev pub frame_of : Kind → Frame
frame_of kind = cond (is kind Push) opening (cond (is kind Pop) closing (cond (is kind Eop) ending inside))

-- of a command (rule 7.2)
abbrev pub frame_of_command : Command → Frame
frame_of_command c = frame_of (kind_of_command c)

-- a run of commands in which each push has its pop: single commands and whole blocks, one after the other (rule 7.2)
pub data Balanced : List Command → Type 0 where
  none : Balanced []
  single : (c : Command) {rest : List Command} → frame_of_command c ≡ inside → Balanced rest → Balanced (c ∷ rest)
  block : (push pop : Command) {within rest : List Command} → frame_of_command push ≡ opening → Balanced within → frame_of_command pop ≡ closing → Balanced rest
      → Balanced (push ∷ within ++ pop ∷ rest)

-- where a run of commands leads: to a state, or out of the range of h or v (rule 7.2)
pub data Led : Type 0 where
  to : State → Led
  out : Led

-- from an outcome on (rule 7.2)
abbrev pub lead_on : Outcome → (State → Led) → Led
lead_on leaves_range next = out
lead_on (continues s added) next = next s

-- where the commands of a run lead, one after the other, from a state on (rule 7.2)
abbrev pub after_all : Setting → State → List Command → Led
after_all setting s [] = to s
after_all setting s (c ∷ rest) = lead_on (after setting s c) (λ next. after_all setting next rest)

-- the font that a run selects last, or the one before it (rule 7.2)
abbrev pub last_font : Setting → Font → List Command → Font
last_font setting font [] = font
last_font setting font (c ∷ rest) = last_font setting (font_after setting font c) rest

-- the state after push, a run and pop: all eight numbers and the saved levels of before, and the font that the run selects last (rule 7.2)
abbrev pub after_block : Setting → State → List Command → State
after_block setting s within = record { level = s.level; saved = s.saved; font = last_font setting s.font within }
