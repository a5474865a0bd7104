-- The list of chosen pages keeps the rules, so the new file is lawful and is accepted, with its own counts. Assumes nothing.
use Prim.Native.Nat.{ℕ, ◌+◌, ◌%◌, ◌^◌, ◌≤◌, ◌<◌, max}
use mathlib.Core.Path.{◌≡◌, refl, sym, ap, ap₂, ◌∙◌}
use mathlib.Core.Bool.{Bool, false}
use mathlib.Core.List.{List, [], ◌∷◌}
use native.Mathlib.Omega.{arith}
use lib.ListN.{length}
use lib.IntN.{ℤ}
use Rattle.refusals.specs.Answer.{given}
use Rattle.commands.specs.declared.Kind.TheVariants.{PostPost}
use Rattle.commands.specs.declared.fields.UnsignedField.{UnsignedField}
use Rattle.commands.specs.Commands.{Command, kind_of_command, written, place}
use Rattle.commands.specs.Reading.{longest_file}
use Rattle.list.specs.declared.Stage.TheVariants.{AfterPost}
use Rattle.list.specs.Past.{stage, greatest, pages, unit_in, definition_of, font_count}
use Rattle.list.specs.Lawful.{fillers, Keeps, Lawful}
use Rattle.volume.specs.Judged.{summary, judged}
use Rattle.volume.specs.History.{history}
use Rattle.list.proofs.Arms.{is_kind}
use Rattle.rewritten.specs.OldWords.{new_number, deepest_on}
use Rattle.cutting.specs.CutList.{opening, mended, cut_after, cut_past, fillers_at, onto, cut_list}
use Rattle.rewritten.specs.Unplaced.{unplaced}
use Rattle.rewritten.proofs.Unwinding.{Closed, list_keeps, list_judged, list_length, written_history}
use Rattle.rewritten.proofs.Opening.{Opens, opens}
use Rattle.rewritten.proofs.Mending.{end_length, end_points, end_same, end_whole}
use Rattle.rewritten.proofs.Allowing.{end_allowed, end_old}
use Rattle.rewritten.proofs.Along.{Along, First, Needs, along, opening_more}

-- the opening is no longer than the list
opening_short : (past : List Command) → place (opening past) ≤ place past
opening_short [] = omega arith
opening_short (c ∷ past) = omega (arith, opening_more past c, opening_short past)

-- four to seven 223s, to a multiple of four
fillers_four : (at : ℕ) → (4 ≤ fillers_at at) × (fillers_at at ≤ 7) × ((at + fillers_at at) % 4 ≡ 0)
fillers_four at = (omega arith, omega arith, omega arith)

-- what ends four bytes before a multiple of four is not filled beyond it
fillers_fit : (at : ℕ) → at + 4 ≤ longest_file → at + fillers_at at ≤ longest_file
fillers_fit at h = omega arith

module _ (chosen : ℕ → Bool) (none-zero : chosen 0 ≡ false) (past : List Command) (c : Command) (closed : Closed past c) (few : pages past < 65536)
    (some : 0 < new_number chosen (pages past)) (fits : place (c ∷ past) + 4 ≤ longest_file) where
  k : kind_of_command c ≡ PostPost
  k = is_kind (kind_of_command c) PostPost closed.last

  -- the old list is after post
  pub old_end : stage past ≡ AfterPost
  old_end = (end_old closed.allowed k).0

  o : Opens past (opening past)
  o = opens closed.sound

  abbrev new : List Command
  new = cut_after (opening past) chosen past

  -- its opening may open the new list
  pub as_first : First (opening past)
  as_first =
      record {
        sound = o.sound;
        stage_is = rw old_end at o.stage_is;
        no_pages = o.no_pages;
        flat = o.flat;
        flat_always = o.flat_always;
        late = o.late;
        late_count = o.late_count;
      }

  -- and what the new list needs of the old one holds
  pub as_needed : Needs (opening past) chosen past
  as_needed =
      record {
        room = omega (arith, opening_short past, fits);
        few = few;
        some = λ _. some;
        covers = λ number _. o.fonts number;
        units = λ _ field. o.units field;
      }

  -- the new list goes along with the old one to the end
  pub to_end : Along (opening past) chosen past new
  to_end = along (opening past) chosen none-zero as_first closed.sound as_needed

  new_short : place new ≤ place past
  new_short = omega (arith, to_end.short)

  below : place new < 2 ^ 31
  below = omega (arith, new_short, fits)

  -- the new list is after post too
  pub new_end_lem : stage new ≡ AfterPost
  new_end_lem = rw old_end at to_end.stage_is

  -- with its post_post
  cut_closed : Closed new (mended new c)
  cut_closed =
      let (was, as_many, i) = end_old closed.allowed k in
      record {
        sound = to_end.sound;
        is_whole = end_whole new c closed.is_whole k;
        allowed = end_allowed new (mended new c) k new_end_lem (to_end.late_count ∙ as_many ∙ sym (to_end.early_count ∙ o.count))
            (end_points new c closed.is_whole k below) (end_same new c closed.is_whole k ∙ i);
        last = closed.last;
      }

  same_opening : opening (c ∷ past) ≡ opening past
  same_opening = rw k refl

  cut_after_is : (first : List Command) → cut_after first chosen (c ∷ past) ≡ mended (cut_after first chosen past) c ∷ cut_after first chosen past
  cut_after_is first = rw (k, old_end) refl

  -- the whole new list
  pub cut_is : cut_past chosen (c ∷ past) ≡ mended new c ∷ new
  cut_is = ap (λ (first : List Command). cut_after first chosen (c ∷ past)) same_opening ∙ cut_after_is (opening past)

  -- it is no longer, up to post_post
  pub cut_short : place (mended new c ∷ new) ≤ place (c ∷ past)
  cut_short = omega (arith, new_short, end_length new c closed.is_whole k)

  abbrev count : ℕ
  count = fillers_at (place (mended new c ∷ new))

  list_is : cut_list chosen (c ∷ past) ≡ onto (mended new c ∷ new) (fillers count)
  list_is = ap (λ (l : List Command). onto l (fillers (fillers_at (place l)))) cut_is

  enough : 4 ≤ count
  enough = (fillers_four (place (mended new c ∷ new))).0

  short_enough : place (mended new c ∷ new) + count ≤ longest_file
  short_enough = fillers_fit (place (mended new c ∷ new)) (omega (arith, cut_short, fits))

  -- the new list keeps the rules
  cut_keeps : Keeps (cut_list chosen (c ∷ past))
  cut_keeps = rw list_is (list_keeps new (mended new c) cut_closed count enough)

  -- its bytes are a multiple of four, at most 16,777,216
  pub cut_length : (length (written (cut_list chosen (c ∷ past))) % 4 ≡ 0) × (length (written (cut_list chosen (c ∷ past))) ≤ longest_file)
  cut_length =
      let long = ap (λ (l : List Command). length (written l)) list_is ∙ list_length new (mended new c) cut_closed count enough in
      (ap (λ (n : ℕ). n % 4) long ∙ (fillers_four (place (mended new c ∷ new))).2, omega (arith, long, short_enough))

  -- the new file is lawful
  pub cut_lawful : Lawful (written (cut_list chosen (c ∷ past)))
  cut_lawful = (cut_length.1, (cut_list chosen (c ∷ past), cut_keeps, refl))

  -- it is accepted with its own counts
  pub cut_judged : judged (written (cut_list chosen (c ∷ past))) ≡ given (summary (cut_past chosen (c ∷ past)))
  cut_judged = rw (list_is, cut_is) (list_judged new (mended new c) cut_closed count enough short_enough)

  -- its commands are the new list's
  pub cut_history : history (written (cut_list chosen (c ∷ past))) ≡ cut_past chosen (c ∷ past)
  cut_history = rw (list_is, cut_is) (written_history new (mended new c) cut_closed count enough short_enough)

  -- as many pages as are chosen
  pub cut_pages_kept : pages (cut_past chosen (c ∷ past)) ≡ new_number chosen (pages past)
  cut_pages_kept = rw cut_is (rw k to_end.pages_is)

  -- as many fonts as before
  pub cut_fonts : font_count false (cut_past chosen (c ∷ past)) ≡ font_count false (c ∷ past)
  cut_fonts = rw cut_is (rw k (to_end.early_count ∙ o.count))

  -- the greatest depth of the chosen pages
  pub cut_depth : greatest (cut_past chosen (c ∷ past)) ≡ deepest_on chosen (c ∷ past)
  cut_depth = rw cut_is (rw k (ap₂ max to_end.greatest_is (rw old_end at to_end.depth_is)))

  -- the fonts are the same
  pub cut_definitions : (number : ℤ) → unplaced (definition_of false number (cut_past chosen (c ∷ past))) ≡ unplaced (definition_of false number (c ∷ past))
  cut_definitions number = rw cut_is (rw k (ap unplaced (to_end.early_same number) ∙ o.fonts number))

  -- num, den and mag are the same
  pub cut_units : (field : UnsignedField) → unit_in field (cut_past chosen (c ∷ past)) ≡ unit_in field (c ∷ past)
  cut_units field = rw cut_is (rw k (to_end.units field ∙ o.units field))

  -- up to three bytes longer than a file of those commands and n 223s
  pub cut_longer : (n : ℕ) → 4 ≤ n → length (written (cut_list chosen (c ∷ past))) ≤ place (c ∷ past) + n + 3
  cut_longer n h =
      let long = ap (λ (l : List Command). length (written l)) list_is ∙ list_length new (mended new c) cut_closed count enough in
      omega (arith, long, cut_short, (fillers_four (place (mended new c ∷ new))).1)
