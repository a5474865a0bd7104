-- What the code holds of the commands so far, and what it makes of one more; no promise cites this. Assumes nothing.
use Rattle.std.specs.Prelude.{ℕ, ◌+◌, ◌-◌, ◌<◌, ◌≤◌, ◌≡◌, Bool, true, false, cond, not, ◌&&◌, ◌||◌, List, ltb, leb, eqb, length, get_or, drop, ℤ}
use Rattle.std.specs.declared.result.Result.{Result}
use Rattle.std.specs.declared.result.Result.TheVariants.{Ok, Err}
use Rattle.refusals.specs.declared.Refusal.{Refusal}
use Rattle.refusals.specs.Answer.{Answer, given, refusal, answered}
use Rattle.commands.specs.declared.Kind.{Kind}
use Rattle.commands.specs.declared.Kind.TheVariants.{SetCharacter, SetRule, PutCharacter, PutRule, Nop, Right, W, X, Down, Y, Z}
use Rattle.commands.specs.Kinds.{is}
use Rattle.commands.specs.Commands.{Command, kind_of_command, whole, front, place}
use Rattle.commands.specs.Reading.{longest_file}
use Rattle.state.specs.Limits.{deepest}
use Rattle.volume.specs.declared.Summary.{Summary}
use Rattle.list.specs.declared.Volume.{Volume}
use Rattle.list.specs.declared.Part.{Part}
use Rattle.list.specs.Past.{depth, definition_of}
use Rattle.list.specs.Steps.{Agrees, AllStanding, Lawfully, Tells, volume_of}
use Rattle.volume.specs.Judged.{judged, judged_from}
use Rattle.volume.specs.History.{history, history_from}
use Rattle.volume.specs.Names.{named_by}

-- ---- the font tables: one more than the place of a font's definition, 0 where it has none

-- the commands so far, and: what is judged of the file, and its history, are what is judged of the rest, and its history
pub record Going (file : List ℕ) (page : ℕ) (v : Volume) (fonts again : List ℕ) : Type 0 where
  pub past : List Command
  pub left : ℕ
  pub agrees : Agrees file page v fonts again past
  pub judgement : judged file ≡ judged_from left past (drop (place past) file)
  pub told : history file ≡ history_from left past (drop (place past) file)
  pub enough : length file < place past + left
  pub inside : place past ≤ length file
  pub short : length file ≤ longest_file

-- ---- what single functions say, of whatever commands the code stands for

-- a step that the scan may take: whatever it stood for before, it stands for what follows after
abbrev pub Onward : List ℕ → List ℕ → Volume → Volume → Type 0
Onward file fonts v r = (page : ℕ) (again : List ℕ) → Going file page v fonts again → Going file page r fonts again

-- ---- commands that on a page, with a font selected, change nothing but the place

-- their kinds
abbrev pub is_plain : Kind → Bool
is_plain kind = is kind SetCharacter || (is kind SetRule || (is kind PutCharacter || (is kind PutRule || (is kind Nop || (is kind Right || (is kind W || (is kind X || (is kind Down || (is kind Y || is kind Z)))))))))

-- from one place to another stand whole plain commands, end to end
pub data Passes (file : List ℕ) : ℕ → ℕ → Type 0 where
  none_more : {at : ℕ} → Passes file at at
  one_more : {from at : ℕ} (c : Command) (rest : List ℕ) → Passes file from at → front (drop at file) ≡ whole c rest → is_plain (kind_of_command c) ≡ true
      → Passes file from (at + (1 + length c.params))

-- a push below depth 100 or a pop above depth 0
abbrev pub may_push_or_pop : ℕ → ℕ → Bool
may_push_or_pop opcode depth = cond (eqb opcode 141) (ltb depth deepest) (eqb opcode 142 && ltb 0 depth)

-- one of these, or fnt_num_0 to fnt_num_63 of a font that is defined
abbrev pub may_pass : List ℕ → ℕ → ℕ → Bool
may_pass fonts opcode depth = cond (leb 171 opcode && ltb opcode 235) (not (eqb (get_or fonts (opcode - 171) 0) 0)) (may_push_or_pop opcode depth)

-- ---- answers

-- the counts that it holds
abbrev pub summary_of : Volume → Summary
summary_of v = record { pages = v.pages; fonts = v.fonts; depth = v.greatest; post = v.post }

-- what the scan's answer says
abbrev pub scan_answer : Result Volume Refusal → Answer Summary
scan_answer (Ok v) = given (summary_of v)
scan_answer (Err r) = refusal r

-- what a scan leaves of an accepted file: the state and the font table of its whole history
abbrev pub ScanKeeps : List ℕ → ℕ → List ℕ → Result Volume Refusal → Type 0
ScanKeeps file page fonts (Ok v) = (v ≡ volume_of page (history file)) × Tells false fonts (history file) × AllStanding file (history file) × Lawfully (history file)
ScanKeeps file page fonts (Err r) = Unit {0}

-- what is accepted is what was held
abbrev pub Same : Volume → Result Volume Refusal → Type 0
Same v (Ok w) = v ≡ w
Same v (Err r) = Unit {0}

-- ---- names

-- a part lies within so many bytes
abbrev pub Inside : ℕ → Result Part Refusal → Type 0
Inside bytes (Ok part) = (part.start ≤ part.end) × (part.end ≤ bytes)
Inside bytes (Err r) = Unit {0}

-- r says where the name of a font stands
abbrev pub NamedIs : List ℕ → List ℕ → ℤ → Result Part Refusal → Type 0
NamedIs file fonts number r =
    (past : List Command) → Tells false fonts past → AllStanding file past → Lawfully past
    → (answered r ≡ named_by (definition_of false number past)) × Inside (length file) r
