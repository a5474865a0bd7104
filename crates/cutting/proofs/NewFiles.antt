-- The new file's bytes: the new list up to post_post, then its 223s. Assumes nothing.
use Prim.Native.Nat.{ℕ, zero, suc, ◌+◌, ◌≤◌, ◌<◌}
use mathlib.Core.Path.{◌≡◌, refl, sym, ap, ◌∙◌}
use mathlib.Core.Bool.{Bool, true, false, not, ◌||◌, true≢false}
use mathlib.Core.List.{List, [], ◌∷◌, ◌++◌, append_assoc}
use native.Mathlib.Omega.{arith}
use lib.ListN.{length, drop, replicate, length-append, length-replicate}
use lib.Seq.{sets, sets-eq}
use borrow.Author.Tests.{lt-ltb, le-ltb, not-false}
use Rattle.refusals.specs.Numbers.{area_too_short, wrong_pages}
use Rattle.refusals.specs.Answer.{refused, given}
use Rattle.commands.specs.Commands.{Command, form, written, place}
use Rattle.list.specs.Lawful.{fillers}
use Rattle.volume.specs.declared.Summary.{Summary}
use Rattle.volume.specs.Judged.{judged}
use Rattle.volume.specs.History.{history}
use Rattle.areas.proofs.Pasting.{sets_behind}
use Rattle.cutting.specs.Chosen.{is_in, is_empty, rises_from, wrong_list}
use Rattle.cutting.specs.CutList.{cut_past, fillers_at, onto}
use Rattle.cutting.specs.CutFile.{cut_file, cut_accepted, cut_pages, cut_area}
use Rattle.cutting.specs.Steps.{forms_of}
use Rattle.cutting.proofs.WriteLaws.{forms_length}

-- a right list rises
pub rising : (last : ℕ) (list : List ℕ) → wrong_list last list ≡ false → rises_from 0 last list ≡ true
rising last list right = by (is_empty list) right
  where
    by : (t : Bool) → (t || not (rises_from 0 last list)) ≡ false → rises_from 0 last list ≡ true
    by true e = absurd (true≢false e)
    by false e = not-false (rises_from 0 last list) e

-- a list that has the newest first, written in the order of a file
written_onto : (past later : List Command) → written (onto past later) ≡ forms_of past ++ written later
written_onto [] later = refl
written_onto (c ∷ past) later = written_onto past (c ∷ later) ∙ sym (append_assoc (forms_of past) (form c) (written later))

-- so many 223s
fillers_written : (n : ℕ) → written (fillers n) ≡ replicate n 223
fillers_written zero = refl
fillers_written (suc n) = ap (λ (l : List ℕ). 223 ∷ l) (fillers_written n)

module _ (file list : List ℕ) where
  abbrev new : List Command
  new = cut_past (is_in list) (history file)

  abbrev tail : List ℕ
  tail = replicate (fillers_at (place new)) 223

  tail_length : length tail ≡ fillers_at (place new)
  tail_length = length-replicate {A = ℕ} (fillers_at (place new)) 223

  file_is : cut_file file list ≡ forms_of new ++ tail
  file_is = written_onto new (fillers (fillers_at (place new))) ∙ ap (λ (l : List ℕ). forms_of new ++ l) (fillers_written (fillers_at (place new)))

  pub file_length : length (cut_file file list) ≡ place new + fillers_at (place new)
  file_length = ap length file_is ∙ length-append (forms_of new) tail ∙ omega (arith, forms_length new, tail_length)

  -- where the area has no room
  pub cut_short : (room : ℕ) → room < place new + fillers_at (place new) → cut_accepted file list room ≡ refused area_too_short 0
  cut_short room h = rw (lt-ltb room (length (cut_file file list)) (omega (arith, file_length))) refl

  -- where it has
  pub cut_given : (room : ℕ) → place new + fillers_at (place new) ≤ room → cut_accepted file list room ≡ given (cut_file file list)
  cut_given room h = rw (le-ltb room (length (cut_file file list)) (omega (arith, file_length))) refl

  -- the list and its 223s, written one behind the other
  pub area_filled : (entry : List ℕ) → place new + fillers_at (place new) ≤ length entry
      → sets (sets entry 0 (forms_of new)) (place new) tail ≡ cut_area entry (given (cut_file file list))
  area_filled entry fits =
      let start : place new ≡ 0 + length (forms_of new) = omega (arith, forms_length new) in
      let long : length (forms_of new ++ tail) ≡ place new + fillers_at (place new) = sym (ap length file_is) ∙ file_length in
      let none_before : 0 + length (forms_of new ++ tail) ≡ length (forms_of new ++ tail) = omega arith in
      ap (λ (n : ℕ). sets (sets entry 0 (forms_of new)) n tail) start
      ∙ sets_behind entry 0 (forms_of new) tail
      ∙ sets-eq (forms_of new ++ tail) entry 0 (omega (arith, long))
      ∙ ap (λ (n : ℕ). (forms_of new ++ tail) ++ drop n entry) none_before
      ∙ ap (λ (l : List ℕ). l ++ drop (length l) entry) (sym file_is)

-- a wrong list is refused whatever the area is: 23 before 17
pub cut_wrong : (file list : List ℕ) (room : ℕ) (s : Summary) → judged file ≡ given s → wrong_list s.pages list ≡ true → cut_pages file list room ≡ refused wrong_pages 0
cut_wrong file list room s accepted wrong = rw (accepted, wrong) refl
