-- What placing a page answers, and every byte of the output area. Assumes nothing.
use Rattle.std.specs.Prelude.{ℕ, ◌*◌, Bool, not, ◌&&◌, List, ◌++◌, ltb, leb, length, drop}
use Rattle.refusals.specs.Numbers.{no_such_page, area_too_short}
use Rattle.refusals.specs.Answer.{Answer, refused, given, refuse_if, and_then}
use Rattle.units.specs.declared.Ratio.{Ratio}
use Rattle.units.specs.Unit.{unit_of, drift}
use Rattle.widths.specs.Table.{checked_table}
use Rattle.commands.specs.Commands.{Command}
use Rattle.list.specs.Past.{num, den, mag}
use Rattle.volume.specs.Judged.{judged}
use Rattle.volume.specs.History.{history}
use Rattle.state.specs.Registers.{fresh_state}
use Rattle.placements.specs.declared.Counts.{Counts}
use Rattle.placements.specs.Records.{placement_record_size, all_bytes}
use Rattle.page.specs.PageList.{page_of}
use Rattle.turns.specs.Placing.{Setting, look_in, Contents, placing}

-- a page number that the file has not (rule 9.8)
abbrev pub page_outside : ℕ → ℕ → Bool
page_outside page pages = not (leb 1 page && leb page pages)

-- what the pages of a volume, by its commands, are placed by at a resolution (rule 8.3)
abbrev pub setting_in : List Command → List ℕ → Ratio → ℕ → ℕ → ℕ → Setting
setting_in past table k resolution rows page =
    record { ruler = record { k = k; drift = drift resolution }; look = look_in table rows; volume = past; page = page }

-- those of a file (rule 8.3)
abbrev pub setting_of : List ℕ → List ℕ → Ratio → ℕ → ℕ → ℕ → Setting
setting_of file = setting_in (history file)

-- 17 where the area has no room for all records; by then the whole page was judged for 16 (rule 9.8)
abbrev pub with_room : ℕ → Contents → Answer Contents
with_room room p = refuse_if (ltb room (placement_record_size * length p.placements)) area_too_short 0 (given p)

-- 12 to 17, in this order: one page of a volume of so many pages, by its commands, with a width table, at a resolution, into an area of so many bytes (rule 9.8)
abbrev pub placed_in : List Command → List ℕ → ℕ → ℕ → ℕ → ℕ → Answer Contents
placed_in past table resolution page room pages =
    and_then (unit_of (num past) (den past) (mag past) resolution) (λ k.
    and_then (checked_table table) (λ rows.
    refuse_if (page_outside page pages) no_such_page 0
    (and_then (placing (setting_in past table k resolution rows page) fresh_state (page_of page past)) (with_room room))))

-- one of an accepted file (rule 9.8)
abbrev pub placed_accepted : List ℕ → List ℕ → ℕ → ℕ → ℕ → ℕ → Answer Contents
placed_accepted file = placed_in (history file)

-- what placing comes to: the file is judged first (rule 9.8)
abbrev pub placed_page : List ℕ → List ℕ → ℕ → ℕ → ℕ → Answer Contents
placed_page file table resolution page room = and_then (judged file) (λ found. placed_accepted file table resolution page room found.pages)

-- the numbers that are given of a page (rule 9.8)
abbrev pub counts_of : Contents → Counts
counts_of p = record { records = length p.placements; missing = p.missing_characters; specials = p.specials }

-- the same of an answer (rule 9.8)
abbrev pub placed_counts : Answer Contents → Answer Counts
placed_counts answer = and_then answer (λ p. given (counts_of p))

-- the area afterwards: the records' bytes, then what stood there; as it was where it is refused (rule 9.1)
abbrev pub area_after : List ℕ → Answer Contents → List ℕ
area_after entry (refused number place) = entry
area_after entry (given p) = all_bytes p.placements ++ drop (placement_record_size * length p.placements) entry
