-- The file of chosen pages, and what cutting answers. Assumes nothing.
use Rattle.std.specs.Prelude.{ℕ, List, ◌++◌, ltb, length, drop}
use Rattle.refusals.specs.Numbers.{area_too_short, wrong_pages}
use Rattle.refusals.specs.Answer.{Answer, refused, given, refuse_if, and_then}
use Rattle.commands.specs.Commands.{written}
use Rattle.volume.specs.Judged.{judged}
use Rattle.volume.specs.History.{history}
use Rattle.cutting.specs.Chosen.{is_in, wrong_list}
use Rattle.cutting.specs.CutList.{cut_list}

-- the bytes of the new file (rule 12.5)
abbrev pub cut_file : List ℕ → List ℕ → List ℕ
cut_file file list = written (cut_list (is_in list) (history file))

-- 17 where the area has no room for all of them (rule 9.10)
abbrev pub cut_accepted : List ℕ → List ℕ → ℕ → Answer (List ℕ)
cut_accepted file list room = refuse_if (ltb room (length (cut_file file list))) area_too_short 0 (given (cut_file file list))

-- what cutting comes to, for an area of so many bytes: the file is judged first, then the list, then the area (rule 9.10)
abbrev pub cut_pages : List ℕ → List ℕ → ℕ → Answer (List ℕ)
cut_pages file list room = and_then (judged file) (λ found. refuse_if (wrong_list found.pages list) wrong_pages 0 (cut_accepted file list room))

-- how many bytes that is (rule 9.10)
abbrev pub bytes_cut : Answer (List ℕ) → Answer ℕ
bytes_cut answer = and_then answer (λ bytes. given (length bytes))

-- the area afterwards: the new file, then what stood there; as it was where it is refused (rule 9.1)
abbrev pub cut_area : List ℕ → Answer (List ℕ) → List ℕ
cut_area entry (refused number place) = entry
cut_area entry (given bytes) = bytes ++ drop (length bytes) entry
