-- What the check, names and placing say of a lawful file is said of its list of commands: of every list that keeps the rules and is written as the file, of
-- which there is one only. First of the definitions, then of the contracts themselves. Assumes nothing.
use Prim.Native.Nat.{ℕ, ◌≤◌}
use mathlib.Core.Path.{◌≡◌, ap, ◌∙◌}
use mathlib.Core.Bool.{false}
use mathlib.Core.List.{List}
use lib.IntN.{ℤ}
use lib.ListN.{length}
use contract.Lifetimes.{Lfts}
use Rattle.refusals.specs.Answer.{Answer, given, and_then, answered}
use Rattle.commands.specs.Commands.{Command, written}
use Rattle.commands.specs.Reading.{longest_file}
use Rattle.volume.specs.declared.Summary.{Summary}
use Rattle.list.specs.Past.{definition_of}
use Rattle.list.specs.Lawful.{Keeps}
use Rattle.volume.specs.Judged.{judged}
use Rattle.volume.specs.History.{history}
use Rattle.volume.specs.OfList.{past_of, counts}
use Rattle.volume.specs.Names.{named_by, name_place}
use Rattle.volume.proofs.Accepts.{lawful_counts}
use Rattle.volume.proofs.History.{lawful_history}
use Rattle.page.specs.Answers.{placed_in, placed_accepted, placed_page, placed_counts, area_after}
use Rattle.reader.specs.Answers.{name_answer}
use Rattle.reader.proofs.check_file.Reads as check-file
use Rattle.reader.proofs.font_name.Reads as font-name
use Rattle.reader.proofs.place_page.Reads as place-page
use Rattle.promises.specs.Calls.{Arguments, file, table, resolution, page, area}
use Rattle.promises.specs.OfTheList.{name_in_list, placed_by}
use Rattle.std.specs.declared.result.Result.{Result}
use Rattle.refusals.specs.declared.Refusal.{Refusal}
use Rattle.placements.specs.declared.Counts.{Counts}
use Rattle.reader.specs.declared.FontName.{FontName}

-- ---- the definitions

-- cs is a list of the file
module _ (bytes : List ℕ) (cs : List Command) (keeps : Keeps cs) (forms : written cs ≡ bytes) (short : length bytes ≤ longest_file) where
  -- the commands that later notions speak of are the list's
  pub history_of_the_list : history bytes ≡ past_of cs
  history_of_the_list = lawful_history bytes (short, (cs, keeps, forms))

  -- the check accepts, with the list's own counts
  pub checked_by_the_list : judged bytes ≡ given (counts cs)
  checked_by_the_list = lawful_counts bytes (short, (cs, keeps, forms))

  -- a font's name is where the list's definition has it
  pub named_by_the_list : (font : ℤ) → name_place bytes font ≡ name_in_list cs font
  named_by_the_list font =
      ap (λ (check : Answer Summary). and_then check (λ found. named_by (definition_of false font (history bytes)))) checked_by_the_list
      ∙ ap (λ (past : List Command). named_by (definition_of false font past)) history_of_the_list

  -- a page is placed by the list's commands
  pub placed_by_the_list : (widths : List ℕ) (dots number room : ℕ) → placed_page bytes widths dots number room ≡ placed_by cs widths dots number room
  placed_by_the_list widths dots number room =
      ap (λ (check : Answer Summary). and_then check (λ found. placed_accepted bytes widths dots number room found.pages)) checked_by_the_list
      ∙ ap (λ (past : List Command). placed_in past widths dots number room (counts cs).pages) history_of_the_list

-- ---- the contracts

-- check_file
pub check_file_by_the_list : (κs : Lfts 1) → (lent : _) → (r : Result Summary Refusal) → (x : _) → check-file.Post κs (lent, tt) r x
    → (cs : List Command) → Keeps cs → written cs ≡ lent.now → length lent.now ≤ longest_file
    → answered r ≡ given (counts cs)
check_file_by_the_list κs lent r x post cs keeps forms short = post.0 ∙ checked_by_the_list lent.now cs keeps forms short

-- a font's name
pub font_name_by_the_list : (κs : Lfts 1) → (lent : _) → (font : ℤ) → (r : Result FontName Refusal) → (x : _) → font-name.Post κs (lent, (font, tt)) r x
    → (cs : List Command) → Keeps cs → written cs ≡ lent.now → length lent.now ≤ longest_file
    → name_answer r ≡ name_in_list cs font
font_name_by_the_list κs lent font r x post cs keeps forms short = post.0 ∙ named_by_the_list lent.now cs keeps forms short font

-- place_page: the answer, and every byte of the area
pub place_page_by_the_list : (κs : Lfts 3) (a x : Arguments) (r : Result Counts Refusal) → place-page.Post κs a r x
    → (cs : List Command) → Keeps cs → written cs ≡ file a → length (file a) ≤ longest_file
    → (answered r ≡ placed_counts (placed_by cs (table a) (resolution a) (page a) (length (area a))))
    × (area x ≡ area_after (area a) (placed_by cs (table a) (resolution a) (page a) (length (area a))))
place_page_by_the_list κs a x r post cs keeps forms short =
    let by-list = placed_by_the_list (file a) cs keeps forms short (table a) (resolution a) (page a) (length (area a)) in
    (post.0 ∙ ap placed_counts by-list, post.1.0 ∙ ap (area_after (area a)) by-list)
