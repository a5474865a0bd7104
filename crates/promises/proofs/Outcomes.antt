-- Any two outcomes that an entry's contract allows for the same inputs are equal. Stated of the contracts themselves. Assumes nothing.
use mathlib.Core.Path.{◌≡◌, sym, ◌∙◌}
use Prim.Native.Nat.{ℕ}
use contract.Lifetimes.{Lfts}
use lib.IntN.{ℤ}
use Rattle.reader.proofs.read_command.Reads as read-command
use Rattle.reader.proofs.check_file.Reads as check-file
use Rattle.reader.proofs.font_name.Reads as font-name
use Rattle.reader.proofs.round_distance.Reads as round-distance
use Rattle.reader.proofs.scale_width.Reads as scale-width
use Rattle.reader.proofs.check_table.Reads as check-table
use Rattle.reader.proofs.look_up.Reads as look_up
use Rattle.reader.proofs.width_table.Reads as width-table
use Rattle.reader.proofs.widen_table.Reads as widen-table
use Rattle.reader.proofs.narrow_table.Reads as narrow-table
use Rattle.reader.proofs.cut_pages.Reads as cut-pages
use Rattle.reader.proofs.place_page.Reads as place-page
use Rattle.std.specs.declared.result.Result.{Result}
use Rattle.std.specs.declared.option.Option.{Option}
use Rattle.refusals.specs.declared.Refusal.{Refusal}
use Rattle.commands.specs.declared.Reading.{Reading}
use Rattle.volume.specs.declared.Summary.{Summary}
use Rattle.placements.specs.declared.Counts.{Counts}
use Rattle.widths.specs.declared.Metric.{Metric}
use Rattle.reader.specs.declared.FontName.{FontName}
use Rattle.promises.proofs.OneToOne.{one_to_one, looked_one_to_one, name_one_to_one}

pub read_command_outcomes : (κs : Lfts 1) → (a : _) → (r s : Result Reading Refusal) → (x y : _) → read-command.Post κs a r x → read-command.Post κs a s y → r ≡ s
read_command_outcomes κs a r s x y p q = one_to_one r s (p ∙ sym q)

pub check_file_outcomes : (κs : Lfts 1) → (a : _) → (r s : Result Summary Refusal) → (x y : _) → check-file.Post κs a r x → check-file.Post κs a s y → r ≡ s
check_file_outcomes κs a r s x y p q = one_to_one r s (p.0 ∙ sym q.0)

-- of a part of the caller's file too: what it holds, where it stands in memory, and where in the file
pub font_name_outcomes : (κs : Lfts 1) → (a : _) → (r s : Result FontName Refusal) → (x y : _) → font-name.Post κs a r x → font-name.Post κs a s y → r ≡ s
font_name_outcomes κs a r s x y p q = name_one_to_one _ _ r s (p.0 ∙ sym q.0) (p.1.0, p.1.1.0) (q.1.0, q.1.1.0)

pub round_distance_outcomes : (κs : Lfts 0) → (a : _) → (r s : Result ℤ Refusal) → (x y : _) → round-distance.Post κs a r x → round-distance.Post κs a s y → r ≡ s
round_distance_outcomes κs a r s x y p q = one_to_one r s (p ∙ sym q)

pub scale_width_outcomes : (κs : Lfts 0) → (a : _) → (r s : Result ℤ Refusal) → (x y : _) → scale-width.Post κs a r x → scale-width.Post κs a s y → r ≡ s
scale_width_outcomes κs a r s x y p q = one_to_one r s (p ∙ sym q)

pub check_table_outcomes : (κs : Lfts 1) → (a : _) → (r s : Result ℕ Refusal) → (x y : _) → check-table.Post κs a r x → check-table.Post κs a s y → r ≡ s
check_table_outcomes κs a r s x y p q = one_to_one r s (p ∙ sym q)

pub look_up_outcomes : (κs : Lfts 2) → (a : _) → (r s : Result (Option Metric) Refusal) → (x y : _) → look_up.Post κs a r x → look_up.Post κs a s y → r ≡ s
look_up_outcomes κs a r s x y p q = looked_one_to_one r s (p ∙ sym q)

-- of a font: the number of records or the refusal, and every byte of the output area
pub width_table_outcomes : (κs : Lfts 2) → (a : _) → (r s : Result ℕ Refusal) → (x y : _) → width-table.Post κs a r x → width-table.Post κs a s y
    → (r ≡ s) × (x.1.1.0.now ≡ y.1.1.0.now)
width_table_outcomes κs a r s x y p q = (one_to_one r s (p.0 ∙ sym q.0), p.1.0 ∙ sym q.1.0)

-- of a table in its other form: the same
pub widen_table_outcomes : (κs : Lfts 2) → (a : _) → (r s : Result ℕ Refusal) → (x y : _) → widen-table.Post κs a r x → widen-table.Post κs a s y
    → (r ≡ s) × (x.1.0.now ≡ y.1.0.now)
widen_table_outcomes κs a r s x y p q = (one_to_one r s (p.0 ∙ sym q.0), p.1.0 ∙ sym q.1.0)

pub narrow_table_outcomes : (κs : Lfts 2) → (a : _) → (r s : Result ℕ Refusal) → (x y : _) → narrow-table.Post κs a r x → narrow-table.Post κs a s y
    → (r ≡ s) × (x.1.0.now ≡ y.1.0.now)
narrow_table_outcomes κs a r s x y p q = (one_to_one r s (p.0 ∙ sym q.0), p.1.0 ∙ sym q.1.0)

-- of chosen pages: the number of bytes or the refusal, and every byte of the output area
pub cut_pages_outcomes : (κs : Lfts 3) → (a : _) → (r s : Result ℕ Refusal) → (x y : _) → cut-pages.Post κs a r x → cut-pages.Post κs a s y
    → (r ≡ s) × (x.1.1.0.now ≡ y.1.1.0.now)
cut_pages_outcomes κs a r s x y p q = (one_to_one r s (p.0 ∙ sym q.0), p.1.0 ∙ sym q.1.0)

-- of one page: the counts or the refusal, and every byte of the output area
pub place_page_outcomes : (κs : Lfts 3) → (a : _) → (r s : Result Counts Refusal) → (x y : _) → place-page.Post κs a r x → place-page.Post κs a s y
    → (r ≡ s) × (x.1.1.1.1.0.now ≡ y.1.1.1.1.0.now)
place_page_outcomes κs a r s x y p q = (one_to_one r s (p.0 ∙ sym q.0), p.1.0 ∙ sym q.1.0)
