-- Every refusal of every entry has a number of the entry's printed list, and a place where that number may be. Stated of the contracts themselves. Assumes
-- nothing.
use Prim.Native.Nat.{ℕ}
use mathlib.Core.Path.{◌≡◌, sym, subst}
use lib.IntN.{ℤ}
use lib.ListN.{length}
use contract.Lifetimes.{Lfts}
use Rattle.refusals.specs.Answer.{Answer, answered}
use Rattle.refusals.specs.RefusedOnly.{RefusedOnly, FileRefusal, CommandRefusal, NameRefusal, DistanceRefusal, WidthRefusal, TableRefusal, PageRefusal, MadeRefusal, CutRefusal, WidenRefusal, NarrowRefusal}
use Rattle.units.proofs.RefusedWith.{distance_refused_with}
use Rattle.scaling.specs.Scaling.{fix_word}
use Rattle.widths.specs.Table.{width_record_size, old_record_size}
use Rattle.scaling.proofs.RefusedWith.{width_refused_with}
use Rattle.widths.proofs.RefusedWith.{table_refused_with, look_up_refused_with}
use Rattle.converting.proofs.RefusedWith.{widen_refused_with, narrow_refused_with}
use Rattle.commands.proofs.RefusedWith.{command_refused_with}
use Rattle.volume.proofs.RefusedWith.{file_refused_with, name_refused_with}
use Rattle.page.proofs.RefusedWith.{page_refused_with}
use Rattle.packed.proofs.RefusedWith.{made_refused_with}
use Rattle.cutting.proofs.RefusedWith.{cut_refused_with}
use Rattle.reader.specs.Answers.{name_answer, looked_answer}
use Rattle.reader.proofs.read_command.Reads as read-command
use Rattle.reader.proofs.check_file.Reads as check-file
use Rattle.reader.proofs.font_name.Reads as font-name
use Rattle.reader.proofs.round_distance.Reads as round-distance
use Rattle.reader.proofs.scale_width.Reads as scale-width
use Rattle.reader.proofs.check_table.Reads as check-table
use Rattle.reader.proofs.look_up.Reads as look_up
use Rattle.reader.proofs.width_table.Reads as width-table
use Rattle.reader.proofs.widen_table.Reads as widen-table
use Rattle.reader.proofs.narrow_table.Reads as narrow-table
use Rattle.reader.proofs.cut_pages.Reads as cut-pages
use Rattle.reader.proofs.place_page.Reads as place-page
use Rattle.std.specs.declared.result.Result.{Result}
use Rattle.std.specs.declared.option.Option.{Option}
use Rattle.refusals.specs.declared.Refusal.{Refusal}
use Rattle.commands.specs.declared.Reading.{Reading}
use Rattle.volume.specs.declared.Summary.{Summary}
use Rattle.placements.specs.declared.Counts.{Counts}
use Rattle.widths.specs.declared.Metric.{Metric}
use Rattle.reader.specs.declared.FontName.{FontName}

-- what holds of the meaning holds of an answer that says it
said : {A : Type 0} (May : ℕ → ℕ → Type 0) {answer meant : Answer A} → answer ≡ meant → RefusedOnly May meant → RefusedOnly May answer
said May e only = subst (RefusedOnly May) (sym e) only

-- 1 at 0; 2 or 3 at the place asked
pub read_command_refusals : (κs : Lfts 1) → (file : _) → (at : ℕ) → (r : Result Reading Refusal) → (x : _) → read-command.Post κs (file, (at, tt)) r x
    → RefusedOnly (CommandRefusal at) (answered r)
read_command_refusals κs file at r x post = said (CommandRefusal at) post (command_refused_with file.now at)

-- 1 at 0; 2 to 11 in the file or at its end
pub check_file_refusals : (κs : Lfts 1) → (file : _) → (r : Result Summary Refusal) → (x : _) → check-file.Post κs (file, tt) r x
    → RefusedOnly (FileRefusal file.now) (answered r)
check_file_refusals κs file r x post = said (FileRefusal file.now) post.0 (file_refused_with file.now)

-- as check_file; 8 at 0
pub font_name_refusals : (κs : Lfts 1) → (file : _) → (font : ℤ) → (r : Result FontName Refusal) → (x : _) → font-name.Post κs (file, (font, tt)) r x
    → RefusedOnly (NameRefusal file.now) (name_answer r)
font_name_refusals κs file font r x post = said (NameRefusal file.now) post.0 (name_refused_with file.now font)

-- 4, 12 or 13 at 0
pub round_distance_refusals : (κs : Lfts 0) → (num den mag : ℤ) → (resolution : ℕ) → (n : ℤ) → (r : Result ℤ Refusal) → (x : _)
    → round-distance.Post κs (num, (den, (mag, (resolution, (n, tt))))) r x
    → RefusedOnly DistanceRefusal (answered r)
round_distance_refusals κs num den mag resolution n r x post = said DistanceRefusal post (distance_refused_with num den mag resolution n)

-- 14 at 0
pub scale_width_refusals : (κs : Lfts 0) → (scale b0 b1 b2 b3 : ℕ) → (r : Result ℤ Refusal) → (x : _) → scale-width.Post κs (scale, (b0, (b1, (b2, (b3, tt))))) r x
    → RefusedOnly WidthRefusal (answered r)
scale_width_refusals κs scale b0 b1 b2 b3 r x post = said WidthRefusal post (width_refused_with scale (fix_word b0 b1 b2 b3))

-- 14 at the first byte of a record that begins in the table
pub check_table_refusals : (κs : Lfts 1) → (table : _) → (r : Result ℕ Refusal) → (x : _) → check-table.Post κs (table, tt) r x
    → RefusedOnly (TableRefusal width_record_size table.now) (answered r)
check_table_refusals κs table r x post = said (TableRefusal width_record_size table.now) post (table_refused_with table.now)

-- as check_table
pub look_up_refusals : (κs : Lfts 2) → (table : _) → (checksum scale : ℕ) → (name : _) → (code : ℤ) → (r : Result (Option Metric) Refusal) → (x : _)
    → look_up.Post κs (table, (checksum, (scale, (name, (code, tt))))) r x
    → RefusedOnly (TableRefusal width_record_size table.now) (looked_answer r)
look_up_refusals κs table checksum scale name code r x post =
    said (TableRefusal width_record_size table.now) post (look_up_refused_with table.now checksum scale name.now code)

-- as check_file; 12, 13, 15 or 17 at 0; as check_table; 16 in the file
pub place_page_refusals : (κs : Lfts 3) → (file table : _) → (resolution page : ℕ) → (area : _) → (r : Result Counts Refusal) → (x : _)
    → place-page.Post κs (file, (table, (resolution, (page, (area, tt))))) r x
    → RefusedOnly (PageRefusal file.now width_record_size table.now) (answered r)
place_page_refusals κs file table resolution page area r x post =
    said (PageRefusal file.now width_record_size table.now) post.0 (page_refused_with file.now table.now resolution page (length area.now))

-- 22 at 0; 18 in the file or at its end; 19 to 21 in the file; 17 at 0
pub width_table_refusals : (κs : Lfts 2) → (pk : _) → (scale : ℕ) → (area : _) → (r : Result ℕ Refusal) → (x : _) → width-table.Post κs (pk, (scale, (area, tt))) r x
    → RefusedOnly (MadeRefusal pk.now) (answered r)
width_table_refusals κs pk scale area r x post = said (MadeRefusal pk.now) post.0 (made_refused_with pk.now scale (length area.now))

-- as check_file; 23 or 17 at 0
pub cut_pages_refusals : (κs : Lfts 3) → (file pages area : _) → (r : Result ℕ Refusal) → (x : _) → cut-pages.Post κs (file, (pages, (area, tt))) r x
    → RefusedOnly (CutRefusal file.now) (answered r)
cut_pages_refusals κs file pages area r x post = said (CutRefusal file.now) post.0 (cut_refused_with file.now pages.now (length area.now))

-- 14 at the first byte of an old record that begins in the table; 17 at 0
pub widen_table_refusals : (κs : Lfts 2) → (old area : _) → (r : Result ℕ Refusal) → (x : _) → widen-table.Post κs (old, (area, tt)) r x
    → RefusedOnly (WidenRefusal old_record_size old.now) (answered r)
widen_table_refusals κs old area r x post = said (WidenRefusal old_record_size old.now) post.0 (widen_refused_with old.now (length area.now))

-- 14 and 24 at the first byte of a record that begins in the table; 17 at 0
pub narrow_table_refusals : (κs : Lfts 2) → (table area : _) → (r : Result ℕ Refusal) → (x : _) → narrow-table.Post κs (table, (area, tt)) r x
    → RefusedOnly (NarrowRefusal width_record_size table.now) (answered r)
narrow_table_refusals κs table area r x post = said (NarrowRefusal width_record_size table.now) post.0 (narrow_refused_with table.now (length area.now))
