-- Which numbers cutting is refused with, and at which places; a refusal leaves the area. Assumes nothing.
use Prim.Native.Nat.{ℕ}
use mathlib.Core.Path.{refl}
use mathlib.Core.List.{List}
use mathlib.Core.Logic.{inl, inr}
use lib.Dec.{ltb}
use lib.ListN.{length}
use Rattle.refusals.specs.Numbers.{area_too_short, wrong_pages}
use Rattle.refusals.specs.Answer.{given}
use Rattle.refusals.specs.RefusedOnly.{RefusedOnly, FileRefusal, CutRefusal}
use Rattle.refusals.proofs.RefusedOnly.{if_only, then_only, only_wider}
use Rattle.volume.specs.Judged.{judged}
use Rattle.volume.proofs.RefusedWith.{file_refused_with}
use Rattle.cutting.specs.Chosen.{wrong_list}
use Rattle.cutting.specs.CutFile.{cut_file, cut_accepted, cut_pages, bytes_cut}

-- 1 to 11, each at its place; 23 or 17 at 0
pub cut_refused_with : (file list : List ℕ) (room : ℕ) → RefusedOnly (CutRefusal file) (bytes_cut (cut_pages file list room))
cut_refused_with file list room =
    let May = CutRefusal file in
    then_only May (cut_pages file list room) (λ bytes. given (length bytes))
    (then_only May (judged file) _ (only_wider (FileRefusal file) May (judged file) (λ number place may. inl may) (file_refused_with file)) (λ found.
    if_only May (wrong_list found.pages list) wrong_pages 0 (cut_accepted file list room) (inr (inl refl, refl))
    (if_only May (ltb room (length (cut_file file list))) area_too_short 0 (given (cut_file file list)) (inr (inr refl, refl)) tt)))
    (λ bytes. tt)
