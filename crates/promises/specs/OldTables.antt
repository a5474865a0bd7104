-- Placing with a table of the old form, as the old look-up would have placed; and when a record is a font's own: what the theorems on names are stated with. Assumes nothing.
use Rattle.std.specs.Prelude.{ℕ, ◌*◌, ◌≤◌, ◌≡◌, true, List, ℤ, length, take, drop}
use Rattle.refusals.specs.Numbers.{no_such_page}
use Rattle.refusals.specs.Answer.{Answer, refuse_if, and_then}
use Rattle.names.specs.Names.{name_number}
use Rattle.units.specs.declared.Ratio.{Ratio}
use Rattle.units.specs.Unit.{unit_of, drift}
use Rattle.widths.specs.Table.{size_with, record_of, old_table}
use Rattle.widths.specs.LookUp.{LookUp, code_byte, is_for, old_walk}
use Rattle.converting.specs.Converting.{in_form}
use Rattle.commands.specs.Commands.{Command}
use Rattle.list.specs.Past.{num, den, mag}
use Rattle.volume.specs.Judged.{judged}
use Rattle.volume.specs.History.{history}
use Rattle.state.specs.declared.Font.{Font}
use Rattle.state.specs.Registers.{fresh_state}
use Rattle.page.specs.PageList.{page_of}
use Rattle.turns.specs.Placing.{Setting, Contents, placing}
use Rattle.page.specs.Answers.{page_outside, with_room}

-- what the old look-up finds for a font's character, by check sum, scale and code: what the font is called does not matter (rule 13.4)
abbrev pub old_look : List ℕ → ℕ → Font → ℤ → LookUp
old_look old records font code = old_walk records old font.checksum font.scale (code_byte code)

-- what a page was placed by (rules 8.3, 13.4)
abbrev pub old_setting_in : List Command → List ℕ → Ratio → ℕ → ℕ → ℕ → Setting
old_setting_in past old k resolution records page =
    record { ruler = record { k = k; drift = drift resolution }; look = old_look old records; volume = past; page = page }

-- what placing came to with a table of the old form: 1 to 11 of the file, then 12 to 17, the table judged by the old form's rules (rules 9.8, 13.4)
abbrev pub old_placed_page : List ℕ → List ℕ → ℕ → ℕ → ℕ → Answer Contents
old_placed_page file old resolution page room =
    let past = history file in
    and_then (judged file) (λ found.
    and_then (unit_of (num past) (den past) (mag past) resolution) (λ k.
    and_then (old_table old) (λ records.
    refuse_if (page_outside page found.pages) no_such_page 0
    (and_then (placing (old_setting_in past old k resolution records page) fresh_state (page_of page past)) (with_room room)))))

-- the record of an index is a font's own for a character: its check sum, scale, name and code (rule 6.8)
abbrev pub IsOwn : List ℕ → ℕ → Font → ℤ → Type 0
IsOwn table index font code = is_for (record_of table index) font.checksum font.scale (name_number font.name) (code_byte code) ≡ true

-- the record of an index is one of any name for a character of a font: its check sum, scale and code, and sixteen zeros (rule 6.10)
abbrev pub IsOfAny : List ℕ → ℕ → Font → ℤ → Type 0
IsOfAny table index font code = is_for (record_of table index) font.checksum font.scale 0 (code_byte code) ≡ true

-- what a call that brings so many records into their other form does to the area: they stand at its front, and what is behind them is as it was (rules 9.1, 9.11, 9.12)
pub record Converts (from to : ℕ) (table before after : List ℕ) (records : ℕ) : Type 0 where
  pub room : records * size_with to ≤ length before
  pub front : take (records * size_with to) after ≡ in_form from to records table
  pub rest : drop (records * size_with to) after ≡ drop (records * size_with to) before
