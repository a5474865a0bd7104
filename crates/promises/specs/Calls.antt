-- A call of place_page: its arguments, what its contract says of them, and what the page is placed by. Assumes nothing.
use Rattle.std.specs.Prelude.{ℕ, ◌≡◌, false, List, [], length}
use Rattle.std.specs.Borrow.{Bor, MutBor}
use Rattle.refusals.specs.Answer.{Answer, given}
use Rattle.units.specs.declared.Ratio.{Ratio}
use Rattle.units.specs.Unit.{unit_of}
use Rattle.widths.specs.Table.{checked_table}
use Rattle.volume.specs.declared.Summary.{Summary}
use Rattle.list.specs.Past.{num, den, mag}
use Rattle.volume.specs.Judged.{judged}
use Rattle.volume.specs.History.{history}
use Rattle.state.specs.Registers.{unselected}
use Rattle.turns.specs.Placing.{Located, Setting, Contents}
use Rattle.page.specs.PageList.{page_of}
use Rattle.turns.specs.Counting.{Seen, with_fonts}
use Rattle.page.specs.Answers.{page_outside, setting_of, placed_page}
use Rattle.page.specs.Printed.{example}

-- the arguments, in the order of the signature, as they are before the call or after it
abbrev pub Arguments : Type 0
Arguments = Bor (List ℕ) × (Bor (List ℕ) × (ℕ × (ℕ × (MutBor (List ℕ) × Unit {0}))))

module _ (a : Arguments) where
  -- the bytes of the file
  abbrev pub file : List ℕ
  file = a.0.now

  -- the bytes of the width table
  abbrev pub table : List ℕ
  table = a.1.0.now

  -- the resolution
  abbrev pub resolution : ℕ
  resolution = a.1.1.0

  -- the page's number
  abbrev pub page : ℕ
  page = a.1.1.1.0

  -- the bytes of the output area
  abbrev pub area : List ℕ
  area = a.1.1.1.1.0.now

  -- what the contract says of the call (rule 9.8)
  abbrev pub meant : Answer Contents
  meant = placed_page file table resolution page (length area)

  -- K, by the units of the file's preamble (rule 5.2)
  abbrev pub unit_here : Answer Ratio
  unit_here = unit_of (num (history file)) (den (history file)) (mag (history file)) resolution

  -- the page's own commands (rule 8.2)
  abbrev pub own : List Located
  own = page_of page (history file)

  -- what passed before the page was walked: the file is accepted, K is in range, the table is right, and the page is one of the file's (rule 9.8)
  pub record Grounds : Type 0 where
    pub found : Summary
    pub unit : Ratio
    pub rows : ℕ
    pub accepted : judged file ≡ given found
    pub unit_is : unit_here ≡ given unit
    pub table_is : checked_table table ≡ given rows
    pub there : page_outside page found.pages ≡ false

  -- what the page is placed by: K, D, the table, the file's commands and the page's number (rule 8.3)
  abbrev pub grounds_setting : Grounds → Setting
  grounds_setting g = setting_of file table g.unit resolution g.rows page

  -- the page's own commands, each with the font that is current at it; at first there is none (rules 7.1, 7.10)
  abbrev pub seen_by : Grounds → List Seen
  seen_by g = with_fonts (grounds_setting g) unselected own

  -- the call is for the printed example, with an area that just holds its records
  pub record IsPrinted : Type 0 where
    pub file_is : file ≡ example
    pub table_is : table ≡ []
    pub resolution_is : resolution ≡ 300
    pub page_is : page ≡ 1
    pub room_is : length area ≡ 40
