-- Any two outcomes that the contract of an entry of C allows for the same inputs are equal: the code, every number of the array, every byte of the area.
-- Stated of the contracts themselves. Assumes nothing.
use mathlib.Core.Path.{◌≡◌, sym, ◌∙◌}
use Prim.Native.Nat.{ℕ}
use contract.Lifetimes.{Lfts}
use Rattle.clib.proofs.hurlyburn_read_command.Reads as read-command
use Rattle.clib.proofs.hurlyburn_check_file.Reads as check-file
use Rattle.clib.proofs.hurlyburn_place_page.Reads as place-page
use Rattle.clib.proofs.hurlyburn_round_distance.Reads as round-distance
use Rattle.clib.proofs.hurlyburn_scale_width.Reads as scale-width
use Rattle.clib.proofs.hurlyburn_check_table.Reads as check-table
use Rattle.clib.proofs.hurlyburn_look_up.Reads as look_up
use Rattle.clib.proofs.hurlyburn_width_table.Reads as width-table
use Rattle.clib.proofs.hurlyburn_widen_table.Reads as widen-table
use Rattle.clib.proofs.hurlyburn_narrow_table.Reads as narrow-table
use Rattle.clib.proofs.hurlyburn_cut_pages.Reads as cut-pages
use Rattle.clib.proofs.hurlyburn_font_name.Reads as font-name

pub read_command_outcomes : (κs : Lfts 2) → (a : _) → (r s : ℕ) → (x y : _) → read-command.Post κs a r x → read-command.Post κs a s y
    → (r ≡ s) × (x.1.1.0.now ≡ y.1.1.0.now)
read_command_outcomes κs a r s x y p q = (p.0 ∙ sym q.0, p.1 ∙ sym q.1)

pub check_file_outcomes : (κs : Lfts 2) → (a : _) → (r s : ℕ) → (x y : _) → check-file.Post κs a r x → check-file.Post κs a s y
    → (r ≡ s) × (x.1.0.now ≡ y.1.0.now)
check_file_outcomes κs a r s x y p q = (p.0 ∙ sym q.0, p.1 ∙ sym q.1)

-- the array, then the area
pub place_page_outcomes : (κs : Lfts 4) → (a : _) → (r s : ℕ) → (x y : _) → place-page.Post κs a r x → place-page.Post κs a s y
    → (r ≡ s) × (x.1.1.1.1.1.0.now ≡ y.1.1.1.1.1.0.now) × (x.1.1.1.1.0.now ≡ y.1.1.1.1.0.now)
place_page_outcomes κs a r s x y p q = (p.0 ∙ sym q.0, p.1.0 ∙ sym q.1.0, p.1.1 ∙ sym q.1.1)

pub round_distance_outcomes : (κs : Lfts 1) → (a : _) → (r s : ℕ) → (x y : _) → round-distance.Post κs a r x → round-distance.Post κs a s y
    → (r ≡ s) × (x.1.1.1.1.1.0.now ≡ y.1.1.1.1.1.0.now)
round_distance_outcomes κs a r s x y p q = (p.0 ∙ sym q.0, p.1 ∙ sym q.1)

pub scale_width_outcomes : (κs : Lfts 1) → (a : _) → (r s : ℕ) → (x y : _) → scale-width.Post κs a r x → scale-width.Post κs a s y
    → (r ≡ s) × (x.1.1.1.1.1.0.now ≡ y.1.1.1.1.1.0.now)
scale_width_outcomes κs a r s x y p q = (p.0 ∙ sym q.0, p.1 ∙ sym q.1)

pub check_table_outcomes : (κs : Lfts 2) → (a : _) → (r s : ℕ) → (x y : _) → check-table.Post κs a r x → check-table.Post κs a s y
    → (r ≡ s) × (x.1.0.now ≡ y.1.0.now)
check_table_outcomes κs a r s x y p q = (p.0 ∙ sym q.0, p.1 ∙ sym q.1)

pub look_up_outcomes : (κs : Lfts 3) → (a : _) → (r s : ℕ) → (x y : _) → look_up.Post κs a r x → look_up.Post κs a s y
    → (r ≡ s) × (x.1.1.1.1.1.0.now ≡ y.1.1.1.1.1.0.now)
look_up_outcomes κs a r s x y p q = (p.0 ∙ sym q.0, p.1 ∙ sym q.1)

-- the array, then the area
pub width_table_outcomes : (κs : Lfts 3) → (a : _) → (r s : ℕ) → (x y : _) → width-table.Post κs a r x → width-table.Post κs a s y
    → (r ≡ s) × (x.1.1.1.0.now ≡ y.1.1.1.0.now) × (x.1.1.0.now ≡ y.1.1.0.now)
width_table_outcomes κs a r s x y p q = (p.0 ∙ sym q.0, p.1.0 ∙ sym q.1.0, p.1.1 ∙ sym q.1.1)

-- the array, then the area
pub widen_table_outcomes : (κs : Lfts 3) → (a : _) → (r s : ℕ) → (x y : _) → widen-table.Post κs a r x → widen-table.Post κs a s y
    → (r ≡ s) × (x.1.1.0.now ≡ y.1.1.0.now) × (x.1.0.now ≡ y.1.0.now)
widen_table_outcomes κs a r s x y p q = (p.0 ∙ sym q.0, p.1.0 ∙ sym q.1.0, p.1.1 ∙ sym q.1.1)

-- the array, then the area
pub narrow_table_outcomes : (κs : Lfts 3) → (a : _) → (r s : ℕ) → (x y : _) → narrow-table.Post κs a r x → narrow-table.Post κs a s y
    → (r ≡ s) × (x.1.1.0.now ≡ y.1.1.0.now) × (x.1.0.now ≡ y.1.0.now)
narrow_table_outcomes κs a r s x y p q = (p.0 ∙ sym q.0, p.1.0 ∙ sym q.1.0, p.1.1 ∙ sym q.1.1)

-- the array, then the area
pub cut_pages_outcomes : (κs : Lfts 4) → (a : _) → (r s : ℕ) → (x y : _) → cut-pages.Post κs a r x → cut-pages.Post κs a s y
    → (r ≡ s) × (x.1.1.1.0.now ≡ y.1.1.1.0.now) × (x.1.1.0.now ≡ y.1.1.0.now)
cut_pages_outcomes κs a r s x y p q = (p.0 ∙ sym q.0, p.1.0 ∙ sym q.1.0, p.1.1 ∙ sym q.1.1)

pub font_name_outcomes : (κs : Lfts 2) → (a : _) → (r s : ℕ) → (x y : _) → font-name.Post κs a r x → font-name.Post κs a s y
    → (r ≡ s) × (x.1.1.0.now ≡ y.1.1.0.now)
font_name_outcomes κs a r s x y p q = (p.0 ∙ sym q.0, p.1 ∙ sym q.1)
