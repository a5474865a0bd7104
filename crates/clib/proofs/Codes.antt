-- The code that a call returns tells how it ended: 0 a result, 255 an array too short, 1 to 24 a refusal, whatever the inputs. Assumes nothing.
use Prim.Native.Nat.{ℕ, ◌≤◌, ◌<◌}
use mathlib.Core.Path.{◌≡◌, refl}
use mathlib.Core.Bool.{Bool, true, false, cond}
use mathlib.Core.List.{List}
use native.Mathlib.Omega.{arith}
use borrow.Author.Tests.{ltb-true, ltb-false}
use lib.Dec.{ltb}
use lib.IntN.{ℤ}
use lib.ListN.{length}
use Rattle.refusals.specs.Answer.{Answer, refused, given}
use Rattle.refusals.specs.RefusedOnly.{Listed}
use Rattle.commands.specs.Reading.{command_read}
use Rattle.units.specs.Rounding.{rounded_distance}
use Rattle.scaling.specs.declared.FixWord.{FixWord}
use Rattle.scaling.specs.Scaling.{scaled_width}
use Rattle.widths.specs.Table.{checked_table}
use Rattle.widths.specs.LookUp.{looked_up}
use Rattle.converting.specs.Converting.{widen_table, narrow_table}
use Rattle.volume.specs.Judged.{judged}
use Rattle.volume.specs.Names.{name_place}
use Rattle.packed.specs.Table.{table_made, records_made}
use Rattle.cutting.specs.CutFile.{cut_pages, bytes_cut}
use Rattle.page.specs.Answers.{placed_page, placed_counts}
use Rattle.reader.proofs.Listed.{command_listed, file_listed, name_listed, rounded_listed, scaled_listed, table_listed, looked_listed, placed_listed, made_listed, cut_listed, widened_listed, narrowed_listed}
use Rattle.clib.specs.Answers.{number_of, Given, code, Tells}

module _ {A : Type 0} (least : ℕ) (array : List ℕ) (answer : Answer A) (listed : Listed answer) where
  number_is : (a : Answer A) → Listed a → number_of a ≡ 0 → Given a
  number_is (refused number at) l e = absurd (omega (arith, l.0, e))
  number_is (given a) l e = tt

  number_low : (a : Answer A) → Listed a → number_of a ≤ 24
  number_low (refused number at) l = l.1
  number_low (given a) l = omega arith

  zero : code least array answer ≡ 0 → (least ≤ length array) × Given answer
  zero e = by (ltb (length array) least) refl e
    where
      by : (t : Bool) → ltb (length array) least ≡ t → cond t 255 (number_of answer) ≡ 0 → (least ≤ length array) × Given answer
      by true short e = absurd (omega (arith, e))
      by false long e = (ltb-false (length array) least long, number_is answer listed e)

  most : code least array answer ≡ 255 → length array < least
  most e = by (ltb (length array) least) refl e
    where
      by : (t : Bool) → ltb (length array) least ≡ t → cond t 255 (number_of answer) ≡ 255 → length array < least
      by true short e = ltb-true (length array) least short
      by false long e = absurd (omega (arith, e, number_low answer listed))

  tells : Tells least array answer
  tells = record { at_zero = zero; at_255 = most }

-- ---- each entry's code

pub read_command_code : (array file : List ℕ) (at : ℕ) → Tells 3 array (command_read file at)
read_command_code array file at = tells 3 array (command_read file at) (command_listed file at)

pub check_file_code : (array file : List ℕ) → Tells 4 array (judged file)
check_file_code array file = tells 4 array (judged file) (file_listed file)

pub place_page_code : (array file table : List ℕ) (resolution page room : ℕ) → Tells 3 array (placed_counts (placed_page file table resolution page room))
place_page_code array file table resolution page room =
    tells 3 array (placed_counts (placed_page file table resolution page room)) (placed_listed file table resolution page room)

pub round_distance_code : (array : List ℕ) (num den mag : ℤ) (resolution : ℕ) (n : ℤ) → Tells 1 array (rounded_distance num den mag resolution n)
round_distance_code array num den mag resolution n = tells 1 array (rounded_distance num den mag resolution n) (rounded_listed num den mag resolution n)

pub scale_width_code : (array : List ℕ) (scale : ℕ) (w : FixWord) → Tells 1 array (scaled_width scale w)
scale_width_code array scale w = tells 1 array (scaled_width scale w) (scaled_listed scale w)

pub check_table_code : (array table : List ℕ) → Tells 1 array (checked_table table)
check_table_code array table = tells 1 array (checked_table table) (table_listed table)

pub look_up_code : (array table : List ℕ) (checksum scale : ℕ) (name : List ℕ) (character : ℤ) → Tells 6 array (looked_up table checksum scale name character)
look_up_code array table checksum scale name character =
    tells 6 array (looked_up table checksum scale name character) (looked_listed table checksum scale name character)

pub font_name_code : (array file : List ℕ) (font : ℤ) → Tells 2 array (name_place file font)
font_name_code array file font = tells 2 array (name_place file font) (name_listed file font)

pub width_table_code : (array pk : List ℕ) (scale room : ℕ) → Tells 1 array (records_made (table_made pk scale room))
width_table_code array pk scale room = tells 1 array (records_made (table_made pk scale room)) (made_listed pk scale room)

pub widen_table_code : (array old : List ℕ) (room : ℕ) → Tells 1 array (widen_table old room)
widen_table_code array old room = tells 1 array (widen_table old room) (widened_listed old room)

pub narrow_table_code : (array table : List ℕ) (room : ℕ) → Tells 1 array (narrow_table table room)
narrow_table_code array table room = tells 1 array (narrow_table table room) (narrowed_listed table room)

pub cut_pages_code : (array file list : List ℕ) (room : ℕ) → Tells 1 array (bytes_cut (cut_pages file list room))
cut_pages_code array file list room = tells 1 array (bytes_cut (cut_pages file list room)) (cut_listed file list room)
