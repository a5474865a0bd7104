-- Whatever the inputs, a refusal of any entry has a number of the printed list, so never 0: what the laws on number and place come to. Assumes nothing.
use Prim.Native.Nat.{ℕ, ◌≤◌}
use mathlib.Core.List.{List}
use mathlib.Core.Logic.{inl, inr}
use native.Mathlib.Omega.{arith}
use lib.IntN.{ℤ}
use Rattle.refusals.specs.Answer.{Answer}
use Rattle.refusals.specs.RefusedOnly.{RefusedOnly, Listed, FileRefusal, CommandRefusal, NameRefusal, DistanceRefusal, WidthRefusal, TableRefusal, PageRefusal, MadeRefusal, CutRefusal, WidenRefusal, NarrowRefusal}
use Rattle.refusals.proofs.RefusedOnly.{only_wider, file_numbers_lem, name_numbers_lem, unit_numbers, page_numbers, made_numbers, cut_numbers_lem}
use Rattle.units.specs.Rounding.{rounded_distance}
use Rattle.units.proofs.RefusedWith.{distance_refused_with}
use Rattle.scaling.specs.declared.FixWord.{FixWord}
use Rattle.scaling.specs.Scaling.{scaled_width}
use Rattle.widths.specs.Table.{width_record_size, old_record_size, checked_table}
use Rattle.widths.specs.LookUp.{looked_up}
use Rattle.scaling.proofs.RefusedWith.{width_refused_with}
use Rattle.widths.proofs.RefusedWith.{table_refused_with, look_up_refused_with}
use Rattle.converting.specs.Converting.{widen_table, narrow_table}
use Rattle.converting.proofs.RefusedWith.{widen_refused_with, narrow_refused_with}
use Rattle.commands.specs.Reading.{command_read}
use Rattle.commands.proofs.RefusedWith.{command_refused_with}
use Rattle.volume.specs.Judged.{judged}
use Rattle.volume.specs.Names.{name_place}
use Rattle.volume.proofs.RefusedWith.{file_refused_with, name_refused_with}
use Rattle.packed.specs.Table.{table_made, records_made}
use Rattle.packed.proofs.RefusedWith.{made_refused_with}
use Rattle.cutting.specs.CutFile.{cut_pages, bytes_cut}
use Rattle.cutting.proofs.RefusedWith.{cut_refused_with}
use Rattle.page.specs.Answers.{placed_page, placed_counts}
use Rattle.page.proofs.RefusedWith.{page_refused_with}

-- a number of the list
abbrev Low : ℕ → Type 0
Low number = (1 ≤ number) × (number ≤ 24)

-- what is refused only with numbers of the list
listed : {A : Type 0} (May : ℕ → ℕ → Type 0) (answer : Answer A) → ((number place : ℕ) → May number place → Low number) → RefusedOnly May answer → Listed answer
listed May answer low only = only_wider May (λ number place. Low number) answer low only

file_low : (file : List ℕ) (number place : ℕ) → FileRefusal file number place → Low number
file_low file number place may = let (low, high) = file_numbers_lem file may in (low, omega arith)

name_low : (file : List ℕ) (number place : ℕ) → NameRefusal file number place → Low number
name_low file number place may = let (low, high) = name_numbers_lem file may in (low, omega arith)

command_low : (at number place : ℕ) → CommandRefusal at number place → Low number
command_low at number place (inl (is, there)) = (omega (arith, is), omega (arith, is))
command_low at number place (inr (inl is, there)) = (omega (arith, is), omega (arith, is))
command_low at number place (inr (inr is, there)) = (omega (arith, is), omega (arith, is))

distance_low : (number place : ℕ) → DistanceRefusal number place → Low number
distance_low number place (inl (is, there)) = (omega (arith, is), omega (arith, is))
distance_low number place (inr of_unit) = let (low, high) = unit_numbers of_unit in (omega arith, omega arith)

width_low : (number place : ℕ) → WidthRefusal number place → Low number
width_low number place (is, there) = (omega (arith, is), omega (arith, is))

table_low : (table : List ℕ) (number place : ℕ) → TableRefusal width_record_size table number place → Low number
table_low table number place (is, there, below) = (omega (arith, is), omega (arith, is))

page_low : (file table : List ℕ) (number place : ℕ) → PageRefusal file width_record_size table number place → Low number
page_low file table number place may = let (low, high) = page_numbers file width_record_size table may in (low, omega arith)

made_low : (pk : List ℕ) (number place : ℕ) → MadeRefusal pk number place → Low number
made_low pk number place may = let (low, high) = made_numbers pk may in (omega arith, omega arith)

widen_low : (old : List ℕ) (number place : ℕ) → WidenRefusal old_record_size old number place → Low number
widen_low old number place (inl (is, there, below)) = (omega (arith, is), omega (arith, is))
widen_low old number place (inr (is, there)) = (omega (arith, is), omega (arith, is))

narrow_low : (table : List ℕ) (number place : ℕ) → NarrowRefusal width_record_size table number place → Low number
narrow_low table number place (inl (is, there, below)) = (omega (arith, is), omega (arith, is))
narrow_low table number place (inr (inl (is, there, below))) = (omega (arith, is), omega (arith, is))
narrow_low table number place (inr (inr (is, there))) = (omega (arith, is), omega (arith, is))

-- ---- of each entry

pub command_listed : (file : List ℕ) (at : ℕ) → Listed (command_read file at)
command_listed file at = listed (CommandRefusal at) (command_read file at) (command_low at) (command_refused_with file at)

pub file_listed : (file : List ℕ) → Listed (judged file)
file_listed file = listed (FileRefusal file) (judged file) (file_low file) (file_refused_with file)

pub name_listed : (file : List ℕ) (font : ℤ) → Listed (name_place file font)
name_listed file font = listed (NameRefusal file) (name_place file font) (name_low file) (name_refused_with file font)

pub rounded_listed : (num den mag : ℤ) (resolution : ℕ) (n : ℤ) → Listed (rounded_distance num den mag resolution n)
rounded_listed num den mag resolution n = listed DistanceRefusal (rounded_distance num den mag resolution n) distance_low (distance_refused_with num den mag resolution n)

pub scaled_listed : (scale : ℕ) (w : FixWord) → Listed (scaled_width scale w)
scaled_listed scale w = listed WidthRefusal (scaled_width scale w) width_low (width_refused_with scale w)

pub table_listed : (table : List ℕ) → Listed (checked_table table)
table_listed table = listed (TableRefusal width_record_size table) (checked_table table) (table_low table) (table_refused_with table)

pub looked_listed : (table : List ℕ) (checksum scale : ℕ) (name : List ℕ) (character : ℤ) → Listed (looked_up table checksum scale name character)
looked_listed table checksum scale name character =
    listed (TableRefusal width_record_size table) (looked_up table checksum scale name character) (table_low table) (look_up_refused_with table checksum scale name character)

pub placed_listed : (file table : List ℕ) (resolution page room : ℕ) → Listed (placed_counts (placed_page file table resolution page room))
placed_listed file table resolution page room =
    listed (PageRefusal file width_record_size table) (placed_counts (placed_page file table resolution page room)) (page_low file table) (page_refused_with file table resolution page room)

pub made_listed : (pk : List ℕ) (scale room : ℕ) → Listed (records_made (table_made pk scale room))
made_listed pk scale room = listed (MadeRefusal pk) (records_made (table_made pk scale room)) (made_low pk) (made_refused_with pk scale room)

pub cut_listed : (file list : List ℕ) (room : ℕ) → Listed (bytes_cut (cut_pages file list room))
cut_listed file list room = listed (CutRefusal file) (bytes_cut (cut_pages file list room)) (λ number place may. let (low, high) = cut_numbers_lem file may in (low, omega arith)) (cut_refused_with file list room)

pub widened_listed : (old : List ℕ) (room : ℕ) → Listed (widen_table old room)
widened_listed old room = listed (WidenRefusal old_record_size old) (widen_table old room) (widen_low old) (widen_refused_with old room)

pub narrowed_listed : (table : List ℕ) (room : ℕ) → Listed (narrow_table table room)
narrowed_listed table room = listed (NarrowRefusal width_record_size table) (narrow_table table room) (narrow_low table) (narrow_refused_with table room)
