-- What the code holds of the commands so far, and what it makes of one more; no promise cites this. Assumes nothing.
use Rattle.std.specs.Prelude.{ℕ, zero, suc, ◌+◌, ◌<◌, ◌≤◌, max, ◌≡◌, Bool, true, false, cond, not, ◌&&◌, List, [], ◌∷◌, eqb, length, get_or, drop, set, ℤ, pos, nat_abs}
use Rattle.std.specs.declared.option.Option.{Option}
use Rattle.std.specs.declared.option.Option.TheVariants.{None, Some}
use Rattle.std.specs.declared.result.Result.{Result}
use Rattle.std.specs.declared.result.Result.TheVariants.{Ok, Err}
use Rattle.refusals.specs.declared.Reason.{Reason}
use Rattle.refusals.specs.Numbers.{wrong_preamble, misplaced_command, wrong_depth, wrong_font_definition, no_font, wrong_pointer, wrong_postamble, number_of}
use Rattle.numbers.specs.Signs.{same_number}
use Rattle.commands.specs.declared.Kind.{Kind}
use Rattle.commands.specs.declared.Kind.TheVariants.{Bop, Select, Define, Pre, Post}
use Rattle.commands.specs.Kinds.{kind_of, is}
use Rattle.commands.specs.Commands.{Command, kind_of_command, whole, front, place}
use Rattle.commands.specs.Fields.{unsigned_in, signed_in, bop_pointer, pre_num, pre_den, pre_mag, post_pointer, end_pointer, end_identification, definition_number_size, definition_name}
use Rattle.commands.specs.Parameters.{defined_font, selected_font}
use Rattle.list.specs.declared.Stage.{Stage}
use Rattle.list.specs.declared.Volume.{Volume}
use Rattle.list.specs.declared.Part.{Part}
use Rattle.list.specs.Past.{is_a, stage, stage_after, depth, depth_after, greatest, pages, last_bop, post_place, num, den, mag, selected, defines, body, Definition, none, stands, definition_of, is_defined, font_count}
use Rattle.list.specs.Rules.{lawful_preamble, may_stand, wrong_at_depth, lawful_font, same_bytes, lawful_definition, lawful_postamble, fault}

-- a command of an opcode and its parameters
abbrev pub command : ℕ → List ℕ → Command
command opcode params = record { opcode = opcode; params = params }

-- ---- the state that stands for the commands so far, while the bop of one page is wanted

-- the place of the bop of a page, counted from 1; 0 where there is none
abbrev pub bop_of : ℕ → List Command → ℕ
bop_of page [] = 0
bop_of page (c ∷ past) = cond (is_a Bop c && eqb (pages past + 1) page) (place past) (bop_of page past)

-- all that the code holds of them
abbrev pub volume_of : ℕ → List Command → Volume
volume_of page past =
    record {
      stage = stage past;
      at = place past;
      depth = depth past;
      greatest = greatest past;
      pages = pages past;
      bop = last_bop past;
      wanted = bop_of page past;
      post = post_place past;
      num = num past;
      den = den past;
      mag = mag past;
      fonts = font_count false past;
      again = font_count true past;
      selected = selected past;
    }

-- the same volume but for its stage, place and depths
abbrev pub changed : Volume → Stage → ℕ → ℕ → ℕ → Volume
changed v stage at depth greatest =
    record {
      stage = stage;
      at = at;
      depth = depth;
      greatest = greatest;
      pages = v.pages;
      bop = v.bop;
      wanted = v.wanted;
      post = v.post;
      num = v.num;
      den = v.den;
      mag = v.mag;
      fonts = v.fonts;
      again = v.again;
      selected = v.selected;
    }

-- the stage, the place and the depth after one more command, the rest as it was
abbrev pub moved_on : Volume → Kind → ℕ → Volume
moved_on v kind length =
    changed v (stage_after kind v.stage) (v.at + (1 + length)) (depth_after kind v.depth) (max v.greatest (depth_after kind v.depth))

-- the state after one more command
abbrev pub after_of : ℕ → Volume → Kind → List ℕ → Volume
after_of page v kind params =
    record {
      stage = stage_after kind v.stage;
      at = v.at + (1 + length params);
      depth = depth_after kind v.depth;
      greatest = max v.greatest (depth_after kind v.depth);
      pages = cond (is kind Bop) (v.pages + 1) v.pages;
      bop = cond (is kind Bop) (pos v.at) v.bop;
      wanted = cond (is kind Bop && eqb (v.pages + 1) page) v.at v.wanted;
      post = cond (is kind Post) v.at v.post;
      num = cond (is kind Pre) (unsigned_in pre_num params) v.num;
      den = cond (is kind Pre) (unsigned_in pre_den params) v.den;
      mag = cond (is kind Pre) (unsigned_in pre_mag params) v.mag;
      fonts = cond (defines false v.stage kind) (v.fonts + 1) v.fonts;
      again = cond (defines true v.stage kind) (v.again + 1) v.again;
      selected = cond (is kind Bop) false (cond (is kind Select) true v.selected);
    }

-- ---- the faults of single kinds: by what the code holds, and where a font is defined by the commands so far

-- the number of the fault that the code answers: 0 where there is none
abbrev pub fault_number : Result (Unit {0}) Reason → ℕ
fault_number (Ok done) = 0
fault_number (Err reason) = number_of reason

-- 4, of the first command
abbrev pub first_fault : Kind → List ℕ → ℕ
first_fault kind params = cond (is kind Pre && lawful_preamble params) 0 wrong_preamble

-- 5 comes before what a later rule says of a command
abbrev pub standing_or : Stage → Kind → ℕ → ℕ
standing_or stage kind later = cond (not (may_stand stage kind)) misplaced_command later

-- 6, of push, pop or eop
abbrev pub depth_fault : Kind → ℕ → ℕ
depth_fault kind depth = cond (wrong_at_depth kind depth) wrong_depth 0

-- 7, of a definition
abbrev pub definition_fault : List Command → ℕ → List ℕ → ℕ
definition_fault past opcode params = cond (not (lawful_definition past (command opcode params))) wrong_font_definition 0

-- 8, of a selection
abbrev pub selection_fault : List Command → ℕ → List ℕ → ℕ
selection_fault past opcode params = cond (not (is_defined (definition_of false (selected_font opcode params) past))) no_font 0

-- 8, of a character
abbrev pub character_fault : Bool → ℕ
character_fault selected = cond (not selected) no_font 0

-- 9, of bop
abbrev pub bop_fault : Volume → List ℕ → ℕ
bop_fault v params = cond (not (same_number (signed_in bop_pointer params) v.bop)) wrong_pointer 0

-- 9, then 10, of post
abbrev pub post_fault : Volume → List ℕ → ℕ
post_fault v params =
    cond (not (same_number (signed_in post_pointer params) v.bop)) wrong_pointer
    (cond (not (lawful_postamble v.num v.den v.mag v.greatest v.pages params)) wrong_postamble 0)

-- 7, 9, then 10, of post_post
abbrev pub end_fault : Volume → List ℕ → ℕ
end_fault v params =
    cond (not (eqb v.again v.fonts)) wrong_font_definition
    (cond (not (same_number (signed_in end_pointer params) (pos v.post))) wrong_pointer (cond (not (eqb (unsigned_in end_identification params) 2)) wrong_postamble 0))

-- ---- the font tables: one more than the place of a font's definition, 0 where it has none

-- a definition's entry
abbrev pub entry_of : Definition → ℕ
entry_of none = 0
entry_of (stands at c) = at + 1

-- the place that an entry tells
abbrev pub entry_place : ℕ → Option ℕ
entry_place zero = None
entry_place (suc at) = Some at

-- the place that a table tells of a number: none of one that is no font's
abbrev pub place_in : List ℕ → ℤ → Option ℕ
place_in table number = cond (lawful_font number) (entry_place (get_or table (nat_abs number) 0)) None

-- a table after one more command
abbrev pub table_after : Bool → Stage → Kind → ℕ → List ℕ → ℕ → List ℕ → List ℕ
table_after after stage kind opcode params at table =
    cond (defines after stage kind) (set table (nat_abs (defined_font opcode params)) (at + 1)) table

-- the table tells the definitions of the fonts 0 to 255
pub record Tells (after : Bool) (table : List ℕ) (past : List Command) : Type 0 where
  pub full : length table ≡ 256
  pub entry : (n : ℕ) → n < 256 → get_or table n 0 ≡ entry_of (definition_of after (pos n) past)

-- what is defined stands in the file
abbrev pub StandsIn : List ℕ → Definition → Type 0
StandsIn file none = Unit {0}
StandsIn file (stands at c) = (rest : List ℕ) × (front (drop at file) ≡ whole c rest)

-- only the fonts 0 to 255 are defined
abbrev pub Lawfully : List Command → Type 0
Lawfully past = (number : ℤ) → lawful_font number ≡ false → definition_of false number past ≡ none

-- the definitions before post stand in the file
abbrev pub AllStanding : List ℕ → List Command → Type 0
AllStanding file past = (n : ℕ) → StandsIn file (definition_of false (pos n) past)

-- what the code holds stands for the commands so far
pub record Agrees (file : List ℕ) (page : ℕ) (v : Volume) (fonts again : List ℕ) (past : List Command) : Type 0 where
  pub state : v ≡ volume_of page past
  pub early : Tells false fonts past
  pub late : Tells true again past
  pub standing : AllStanding file past
  pub lawfully : Lawfully past

-- ---- what single functions say, of whatever commands the code stands for

-- a command of a kind that the rules read has the parameters that they read
abbrev pub WithRoom : Kind → List ℕ → Type 0
WithRoom kind params = kind ≡ Pre → pre_mag.at + pre_mag.size ≤ length params

-- a definition's font is one of 0 to 255
abbrev pub LawfullyNumbered : ℕ → List ℕ → Type 0
LawfullyNumbered opcode params = kind_of opcode ≡ Define → lawful_font (defined_font opcode params) ≡ true

-- r says whether the font that a selection names is defined
abbrev pub SelectionIs : List ℕ → ℕ → List ℕ → Bool → Type 0
SelectionIs fonts opcode params r =
    (past : List Command) → Tells false fonts past → Lawfully past → r ≡ is_defined (definition_of false (selected_font opcode params) past)

-- the part of the file that holds check sum, s, d, a, l and name of the definition at a place: after the font's number, to the command's end
abbrev pub saying_part : ℕ → Command → Part
saying_part at c = record { start = at + 1 + definition_number_size c.opcode; end = at + 1 + length c.params }

-- a part that is found lies within the file, has room for check sum, s, d, a and l, and is that part where a definition stands at the place; where none is found, none stands
abbrev pub SayingAt : List ℕ → ℕ → Option Part → Type 0
SayingAt file at (Some r) =
    (r.start + definition_name ≤ r.end)
    × (r.end ≤ length file)
    × ((c : Command) (rest : List ℕ) → front (drop at file) ≡ whole c rest → kind_of_command c ≡ Define → r ≡ saying_part at c)
SayingAt file at None = (c : Command) (rest : List ℕ) → front (drop at file) ≡ whole c rest → kind_of_command c ≡ Define → ⊥

-- r says whether the definition that stands at a place says just this
abbrev pub SayingIs : List ℕ → ℕ → List ℕ → Bool → Type 0
SayingIs file at said r = (c : Command) (rest : List ℕ) → front (drop at file) ≡ whole c rest → kind_of_command c ≡ Define → r ≡ same_bytes (body c) said

-- r says whether a definition keeps the rules
abbrev pub DefinitionIs : List ℕ → List ℕ → List ℕ → Stage → ℕ → ℕ → List ℕ → Bool → Type 0
DefinitionIs file fonts again at_stage count opcode params r =
    (past : List Command) → Tells false fonts past → Tells true again past → AllStanding file past → at_stage ≡ stage past → count ≡ font_count false past
    → r ≡ lawful_definition past (command opcode params)

-- r is the fault of a selection that may stand there
abbrev pub SelectionFaultIs : List ℕ → ℕ → List ℕ → ℕ → Type 0
SelectionFaultIs fonts opcode params r = (past : List Command) → Tells false fonts past → Lawfully past → r ≡ selection_fault past opcode params

-- r is the fault of a definition that may stand there
abbrev pub DefinitionFaultIs : List ℕ → Volume → List ℕ → List ℕ → ℕ → List ℕ → ℕ → Type 0
DefinitionFaultIs file v fonts again opcode params r = (page : ℕ) (past : List Command) → Agrees file page v fonts again past → r ≡ definition_fault past opcode params

-- r is the lowest number that applies to a command
abbrev pub FaultIs : List ℕ → Volume → List ℕ → List ℕ → ℕ → List ℕ → ℕ → Type 0
FaultIs file v fonts again opcode params r =
    (page : ℕ) (past : List Command) → Agrees file page v fonts again past → r ≡ fault past (command opcode params)
