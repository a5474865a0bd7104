-- When a call cuts pages, and what it gives; calls that are worked out by hand. Assumes nothing.
use Rattle.std.specs.Prelude.{ℕ, ◌≤◌, ◌≡◌, false, List, [], ◌∷◌, length, take, drop, replicate}
use Rattle.refusals.specs.Answer.{given}
use Rattle.volume.specs.declared.Summary.{Summary}
use Rattle.volume.specs.Judged.{judged}
use Rattle.volume.specs.Starred.{M}
use Rattle.cutting.specs.Chosen.{wrong_list}
use Rattle.cutting.specs.CutFile.{cut_file}
use Rattle.cutting.specs.Starred.{three_pages}

-- of a file and a list a call with an area gave so many bytes and left the area so (rules 9.1, 9.10)
pub record Gives (file list area : List ℕ) (bytes : ℕ) (after : List ℕ) : Type 0 where
  pub summary : Summary
  pub accepted : judged file ≡ given summary
  pub right : wrong_list summary.pages list ≡ false
  pub bytes_is : bytes ≡ length (cut_file file list)
  pub room : bytes ≤ length area
  pub front : take bytes after ≡ cut_file file list
  pub rest : drop bytes after ≡ drop bytes area

-- when a call is not refused: the file is accepted, the list is right for its pages, and the area has room for the new file (rules 9.10, 12.1)
pub record MayCut (file list : List ℕ) (room : ℕ) : Type 0 where
  pub summary : Summary
  pub accepted : judged file ≡ given summary
  pub right : wrong_list summary.pages list ≡ false
  pub enough : length (cut_file file list) ≤ room

-- the smallest file, its one page, and an area of a hundred zeros (rule 9.10)
pub record IsSmallest (file list area : List ℕ) : Type 0 where
  pub file_is : file ≡ M
  pub list_is : list ≡ 1 ∷ []
  pub area_is : area ≡ replicate 100 0

-- the file of three pages, one of them, and an area of as many bytes as the file (rule 9.10)
pub record IsOneOfThree (file list area : List ℕ) (page : ℕ) : Type 0 where
  pub file_is : file ≡ three_pages
  pub list_is : list ≡ page ∷ []
  pub room_is : length area ≡ 297
