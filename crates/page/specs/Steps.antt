-- What the code's own steps give and keep; no promise cites this. Assumes nothing.
use Rattle.std.specs.Prelude.{ℕ, ◌+◌, ◌<◌, ◌≤◌, ◌≡◌, true, false, List, [], ◌∷◌, length, get_or, drop, ℤ, pos}
use Rattle.std.specs.declared.result.Result.{Result}
use Rattle.std.specs.declared.result.Result.TheVariants.{Ok, Err}
use Rattle.refusals.specs.declared.Refusal.{Refusal}
use Rattle.refusals.specs.Numbers.{number_of}
use Rattle.refusals.specs.Answer.{Answer, refused, given}
use Rattle.widths.specs.declared.blocks.Block.{Block}
use Rattle.widths.specs.declared.table.Widths.{Widths}
use Rattle.commands.specs.declared.Kind.{Kind}
use Rattle.commands.specs.Commands.{Command, kind_of_command, whole, front}
use Rattle.commands.specs.Parameters.{font_scale}
use Rattle.commands.specs.Reading.{longest_file}
use Rattle.list.specs.Past.{is_a, depth_after, body, Definition, none, stands, definition_of}
use Rattle.list.specs.Rules.{wrong_at_depth}
use Rattle.list.specs.declared.Volume.{Volume}
use Rattle.volume.specs.Judged.{judged}
use Rattle.volume.specs.History.{history}
use Rattle.list.specs.Steps.{Tells, AllStanding, Lawfully}
use Rattle.volume.specs.Steps.{summary_of, ScanKeeps}
use Rattle.state.specs.declared.Font.{Font}
use Rattle.state.specs.Registers.{unselected}
use Rattle.placements.specs.declared.Counts.{Counts}
use Rattle.page.specs.declared.Seen.{Seen}
use Rattle.turns.specs.declared.Terms.{Terms}
use Rattle.placements.specs.Steps.{stored}
use Rattle.turns.specs.Placing.{Located, font_by, Contents}
use Rattle.turns.specs.Steps.{Known, KeptFor}
use Rattle.page.specs.PageList.{page_of}

-- ---- how a walk ends

-- how a walk ends: with the area and the counts, or with a refusal
pub data Ending : Type 0 where
  stopped : ℕ → ℕ → Ending
  through : List ℕ → Counts → Ending

-- the ending of what is still to come, from an area and counts on
abbrev pub finish : List ℕ → Counts → Answer Contents → Ending
finish out counts (refused number place) = stopped number place
finish out counts (given p) =
    through (stored out counts.records p.placements)
    (record { records = counts.records + length p.placements; missing = counts.missing + p.missing_characters; specials = counts.specials + p.specials })

-- nothing counted yet
abbrev pub zero_counts : Counts
zero_counts = record { records = 0; missing = 0; specials = 0 }

-- how the code's walk ended
abbrev pub ending_of : List ℕ → Result Counts Refusal → Ending
ending_of out (Ok counts) = through out counts
ending_of out (Err r) = stopped (number_of r.reason) r.place

-- ---- fonts

-- a definition's scale is in its range
abbrev pub InScale : Definition → Type 0
InScale none = Unit {0}
InScale (stands place c) = font_scale (body c) ≤ 134217727

-- the table of the fonts, and the file, tell the definitions before post of the commands so far
pub record Told (file fonts : List ℕ) (past : List Command) : Type 0 where
  pub tells : Tells false fonts past
  pub standing : AllStanding file past
  pub lawfully : Lawfully past
  pub scales : (number : ℤ) → InScale (definition_of false number past)

-- r is the font of a number
abbrev pub FontIs : List ℕ → List ℕ → ℤ → Font → Type 0
FontIs file fonts number r = (past : List Command) → Told file fonts past → (r ≡ font_by number (definition_of false number past)) × Known r

-- a number, its font, and what is kept for it
abbrev pub SeenIs : List ℕ → List ℕ → Widths → Seen → Type 0
SeenIs file fonts widths seen = FontIs file fonts seen.number seen.font × KeptFor widths seen.font seen.kept

-- all of it zeros
abbrev pub zero_seen : Seen
zero_seen =
    let nowhere : Block = record { start = 0; end = 0 } in
    record { number = pos 0; font = unselected; kept = record { sixteenfold = 0; own = nowhere; any = nowhere } }

-- so in each of 64 slots
abbrev pub AllSeen : List ℕ → List ℕ → Widths → List Seen → Type 0
AllSeen file fonts widths seen = (length seen ≡ 64) × ((place : ℕ) → place < length seen → SeenIs file fonts widths (get_or seen place zero_seen))

-- ---- the page's commands in the file

-- from a place on, at a depth, stand the commands of a page up to its eop; pushes and pops keep to the depths
pub data Runs (file : List ℕ) : ℕ → ℕ → List Located → Type 0 where
  ends : {place depth : ℕ} (c : Command) (rest : List ℕ) → front (drop place file) ≡ whole c rest → is_a Kind.Eop c ≡ true → Runs file place depth []
  onward : {place depth : ℕ} {cs : List Located} (c : Command) (rest : List ℕ) → front (drop place file) ≡ whole c rest → is_a Kind.Eop c ≡ false
      → wrong_at_depth (kind_of_command c) depth ≡ false → Runs file (place + (1 + length c.params)) (depth_after (kind_of_command c) depth) cs
      → Runs file place depth (record { at = place; command = c } ∷ cs)

-- all that a walk over a page starts from
pub record Ready (file fonts : List ℕ) (terms : Terms) (start : ℕ) : Type 0 where
  pub short : length file ≤ longest_file
  pub drift_small : terms.ruler.drift ≤ 2
  pub told : Told file fonts (history file)
  pub runs : Runs file start 0 (page_of terms.page (history file))

-- ---- answers

-- what a scan holds of an accepted file
pub record Held (file : List ℕ) (page : ℕ) (fonts : List ℕ) (v : Volume) : Type 0 where
  pub judgement : judged file ≡ given (summary_of v)
  pub keeps : ScanKeeps file page fonts (Ok v)
