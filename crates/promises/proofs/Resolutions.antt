-- What place_page answers does not depend on the resolution, where K is in its range at both: the counts are the same, and so is a refusal. Assumes nothing.
use Prim.Native.Nat.{ℕ, ◌*◌}
use mathlib.Core.Path.{◌≡◌, refl, sym, ap, ◌∙◌}
use mathlib.Core.Bool.{Bool, true, false}
use mathlib.Core.List.{List}
use lib.Dec.{ltb}
use Rattle.refusals.specs.Numbers.{no_such_page, area_too_short}
use Rattle.refusals.specs.Answer.{Answer, refused, given, refuse_if, and_then}
use Rattle.units.specs.declared.Ratio.{Ratio}
use Rattle.units.specs.Unit.{unit_of, drift}
use Rattle.widths.specs.Table.{checked_table}
use Rattle.commands.specs.Commands.{Command}
use Rattle.list.specs.Past.{num, den, mag}
use Rattle.volume.specs.declared.Summary.{Summary}
use Rattle.volume.specs.Judged.{judged}
use Rattle.volume.specs.History.{history}
use Rattle.state.specs.Registers.{fresh_state}
use Rattle.placements.specs.declared.Counts.{Counts}
use Rattle.placements.specs.Records.{placement_record_size}
use Rattle.turns.specs.Placing.{Contents, placing}
use Rattle.page.specs.PageList.{page_of}
use Rattle.page.specs.Answers.{page_outside, setting_in, with_room, placed_in, placed_accepted, placed_page, counts_of, placed_counts}
use Rattle.page.proofs.AnyRuler.{any_ruler}

-- 17 by the counts alone
abbrev roomed : ℕ → Counts → Answer Counts
roomed room counts = refuse_if (ltb room (placement_record_size * counts.records)) area_too_short 0 (given counts)

-- it is what is counted of a page that the area has room for
counted_room : (room : ℕ) (x : Answer Contents) → placed_counts (and_then x (with_room room)) ≡ and_then (placed_counts x) (roomed room)
counted_room room (refused number place) = refl
counted_room room (given p) = by (ltb room (placement_record_size * (counts_of p).records))
  where
    by : (t : Bool) → placed_counts (refuse_if t area_too_short 0 (given p)) ≡ refuse_if t area_too_short 0 (given (counts_of p))
    by true = refl
    by false = refl

module _ (past : List Command) (table : List ℕ) (page room : ℕ) (one other : ℕ) (k l : Ratio) where
  -- a page by a K, and with the room that the area has
  abbrev paged : Ratio → ℕ → ℕ → Answer Contents
  paged unit resolution rows = placing (setting_in past table unit resolution rows page) fresh_state (page_of page past)

  abbrev by : Ratio → ℕ → ℕ → Answer Contents
  by unit resolution rows = and_then (paged unit resolution rows) (with_room room)

  -- it counts the same by either
  page_counts : (rows : ℕ) → placed_counts (by k one rows) ≡ placed_counts (by l other rows)
  page_counts rows =
      counted_room room (paged k one rows)
      ∙ ap (λ (counts : Answer Counts). and_then counts (roomed room))
      (any_ruler (record { k = k; drift = drift one }) (record { k = l; drift = drift other }) (setting_in past table k one rows page) fresh_state (page_of page past))
      ∙ sym (counted_room room (paged l other rows))

  -- 14 and 15 do not ask the resolution
  judged_alike : (pages : ℕ) (rows : Answer ℕ)
      → placed_counts (and_then rows (λ r. refuse_if (page_outside page pages) no_such_page 0 (by k one r)))
      ≡ placed_counts (and_then rows (λ r. refuse_if (page_outside page pages) no_such_page 0 (by l other r)))
  judged_alike pages (refused number place) = refl
  judged_alike pages (given rows) = outside (page_outside page pages)
    where
      outside : (t : Bool) → placed_counts (refuse_if t no_such_page 0 (by k one rows)) ≡ placed_counts (refuse_if t no_such_page 0 (by l other rows))
      outside true = refl
      outside false = page_counts rows

  -- nor does anything after 12 and 13
  same_counts : (pages : ℕ) → unit_of (num past) (den past) (mag past) one ≡ given k → unit_of (num past) (den past) (mag past) other ≡ given l
      → placed_counts (placed_in past table one page room pages) ≡ placed_counts (placed_in past table other page room pages)
  same_counts pages at_one at_other = rw (at_one, at_other) (judged_alike pages (checked_table table))

-- what place_page answers at one resolution it answers at another
pub same_at_any_resolution : (file table : List ℕ) (page room one other : ℕ) (k l : Ratio)
    → unit_of (num (history file)) (den (history file)) (mag (history file)) one ≡ given k
    → unit_of (num (history file)) (den (history file)) (mag (history file)) other ≡ given l
    → placed_counts (placed_page file table one page room) ≡ placed_counts (placed_page file table other page room)
same_at_any_resolution file table page room one other k l at_one at_other = by (judged file)
  where
    by : (judgement : Answer Summary)
        → placed_counts (and_then judgement (λ found. placed_accepted file table one page room found.pages))
        ≡ placed_counts (and_then judgement (λ found. placed_accepted file table other page room found.pages))
    by (refused number place) = refl
    by (given found) = same_counts (history file) table page room one other k l found.pages at_one at_other
