-- A page at one of its commands, and the pixels that a bar covers: what the theorems on bars are stated with. Assumes nothing.
use Rattle.std.specs.Prelude.{◌≤◌, ◌<◌, ◌≡◌, Bool, true, false, List, [], ◌∷◌, ◌++◌, map, ℤ, pos, nat_abs, ◌+ℤ◌, ◌-ℤ◌}
use Rattle.std.specs.Int.Signed.{lt_z}
use Rattle.refusals.specs.Answer.{given}
use Rattle.units.specs.Rounding.{rounded, rounded_up}
use Rattle.commands.specs.Parameters.{rule_height, rule_width}
use Rattle.state.specs.declared.moving.Direction.TheVariants.{Sideways}
use Rattle.state.specs.Moving.{strays, settled}
use Rattle.state.specs.Registers.{State, fresh_state, at_spot}
use Rattle.placements.specs.declared.Record.{Record}
use Rattle.turns.specs.Placing.{Located, Setting, continues, with_numbers, rule_added, after, Contents, placing}
use Rattle.placements.specs.Records.{Added, nothing, placed, missing, special}
use Rattle.turns.specs.Blocks.{to, after_all}

-- the record that a command adds, if it adds one (rule 8.3)
abbrev pub record_added : Added → List Record
record_added nothing = []
record_added (placed r) = r ∷ []
record_added missing = []
record_added special = []

-- a command of some that are placed, from a state on: what those before it come to and where they lead, where it leads, what it adds, and the records of all: theirs, then its own, then the others' (rule 8.3)
pub record AtCommand (setting : Setting) (start : State) (records : List Record) (before : List Located) (c : Located) : Type 0 where
  pub earlier : Contents
  pub here : State
  pub next : State
  pub added : Added
  pub later : List Record
  pub placed_before : placing setting start before ≡ given earlier
  pub leads : after_all setting start (map (λ x. x.command) before) ≡ to here
  pub does : after setting here c.command ≡ continues next added
  pub stands : records ≡ earlier.placements ++ (record_added added ++ later)

-- where a rule of this width leads when it is set: h grows by the width and hh by the width rounded up, which D holds; all else stays (rules 7.3, 7.4, 7.8)
abbrev pub past_bar : Setting → State → ℤ → State
past_bar setting s width =
    with_numbers s (at_spot Sideways (settled setting.ruler (s.level.h +ℤ width) (s.level.hh +ℤ rounded_up setting.ruler.k width)) s.level)

-- any set_rule of a page that is placed: what it adds, where it leads, and that D moves hh by at most one pixel from the old hh plus the width rounded up (rules 7.4, 7.8)
pub record BarMoves (setting : Setting) (written : List Record) (before : List Located) (c : Located) : Type 0 where
  pub at : AtCommand setting fresh_state written before c
  pub adds : at.added ≡ rule_added setting at.here (rule_height c.command.params) (rule_width c.command.params)
  pub moves : at.next ≡ past_bar setting at.here (rule_width c.command.params)
  pub nearly : nat_abs (at.next.level.hh -ℤ (at.here.level.hh +ℤ rounded_up setting.ruler.k (rule_width c.command.params))) ≤ 1

-- the pixel behind a bar would be further than D from the rounded h to which the bar leads, so that D moves hh from there (rule 7.4)
abbrev pub bites : Setting → Record → State → Bool
bites setting bar next = strays setting.ruler.drift (rounded setting.ruler.k next.level.h) (bar.hh +ℤ bar.extent)

-- a column of pixels that a bar covers: from its hh on, as many as it is wide (rules 7.8, 8.1)
pub record Covers (bar : Record) (column : ℤ) : Type 0 where
  pub from : lt_z column bar.hh ≡ false
  pub before_end : lt_z column (bar.hh +ℤ bar.extent) ≡ true

-- a bar with a record, which stands at hh and, K being above 0, is at least a pixel wide: unless D bites, hh grows by the record's own width, and each pixel of the bar is before hh; and D does not bite where hh was less than D from rounded h (rules 7.3, 7.4, 7.8)
pub record ClearBar (setting : Setting) (written : List Record) (before : List Located) (c : Located) : Type 0 where
  pub at : AtCommand setting fresh_state written before c
  pub bar : Record
  pub adds : at.added ≡ placed bar
  pub starts : bar.hh ≡ at.here.level.hh
  pub some : 0 < setting.ruler.k.p → 0 < setting.ruler.k.q → lt_z (pos 0) bar.extent ≡ true
  pub grows : bites setting bar at.next ≡ false → at.next.level.hh -ℤ at.here.level.hh ≡ bar.extent
  pub clear : bites setting bar at.next ≡ false → (column : ℤ) → Covers bar column → lt_z column at.next.level.hh ≡ true
  pub free : nat_abs (at.here.level.hh -ℤ rounded setting.ruler.k at.here.level.h) < setting.ruler.drift → bites setting bar at.next ≡ false
