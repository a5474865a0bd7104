-- The starred examples on whole files, as entries of a list. Assumes nothing.
use Rattle.std.specs.Prelude.{ℕ, ◌≡◌, refl, List, [], ◌∷◌, ◌++◌, map, take, set, replicate}
use Rattle.refusals.specs.Numbers.{file_ends, wrong_depth, wrong_tail}
use Rattle.refusals.specs.Answer.{Answer, refused, given}
use Rattle.numbers.specs.Bytes.{unsigned_at}
use Rattle.commands.specs.Kinds.{kind_of}
use Rattle.commands.specs.Lengths.{lengths, fixed_length, inner_length, size_of}
use Rattle.commands.specs.Commands.{front_after}
use Rattle.volume.specs.declared.Summary.{Summary}
use Rattle.list.specs.Rules.{same_bytes}
use Rattle.volume.specs.Judged.{tail, judged_from, judged}

-- the smallest file, M: pre, an empty page, post, post_post and four 223s
abbrev pub M : List ℕ
M =
    (247 ∷ 2 ∷ 0 ∷ 0 ∷ 0 ∷ 254 ∷ 0 ∷ 0 ∷ 0 ∷ 1 ∷ 0 ∷ 0 ∷ 3 ∷ 232 ∷ 0 ∷ [])
    ++ (139 ∷ []) ++ replicate 40 0 ++ (255 ∷ 255 ∷ 255 ∷ 255 ∷ [])
    ++ (140 ∷ [])
    ++ (248 ∷ 0 ∷ 0 ∷ 0 ∷ 15 ∷ 0 ∷ 0 ∷ 0 ∷ 254 ∷ 0 ∷ 0 ∷ 0 ∷ 1 ∷ 0 ∷ 0 ∷ 3 ∷ 232 ∷ []) ++ replicate 8 0 ++ (0 ∷ 0 ∷ 0 ∷ 1 ∷ [])
    ++ (249 ∷ 0 ∷ 0 ∷ 0 ∷ 61 ∷ 2 ∷ [])
    ++ replicate 4 223

-- a file and what its check must give
pub record FileExample : Type 0 where
  pub file : List ℕ
  pub printed : Answer Summary

-- what the check gives of M
abbrev pub one_page : Summary
one_page = record { pages = 1; fonts = 0; depth = 0; post = 61 }

-- M itself and with one 223 more; cut in its tail, cut before post_post is whole, and empty; a pop in place of eop
abbrev pub file_examples : List FileExample
file_examples =
    record { file = M; printed = given one_page }
    ∷ record { file = M ++ (223 ∷ []); printed = given one_page }
    ∷ record { file = take 99 M; printed = refused wrong_tail 99 }
    ∷ record { file = take 95 M; printed = refused file_ends 90 }
    ∷ record { file = []; printed = refused file_ends 0 }
    ∷ record { file = set M 60 142; printed = refused wrong_depth 60 }
    ∷ []

-- what the definitions give for an example
abbrev pub file_found : FileExample → Answer Summary
file_found e = judged e.file

-- the definitions give what they must
pub files_hold : map file_found file_examples ≡ map (λ e. e.printed) file_examples
unfolding unsigned_at kind_of lengths fixed_length inner_length size_of front_after same_bytes tail judged_from judged
files_hold = refl
