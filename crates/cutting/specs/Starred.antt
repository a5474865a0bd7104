-- Files of chosen pages, worked by hand from the rules, as entries of a list. Assumes nothing.
use Rattle.std.specs.Prelude.{ℕ, ◌≡◌, refl, List, [], ◌∷◌, ◌++◌, map, take, replicate}
use Rattle.refusals.specs.Numbers.{area_too_short, wrong_pages, wrong_tail}
use Rattle.refusals.specs.Answer.{Answer, refused, given}
use Rattle.numbers.specs.Bytes.{unsigned_at, bytes_of}
use Rattle.commands.specs.Kinds.{kind_of}
use Rattle.commands.specs.Lengths.{lengths, fixed_length, inner_length, size_of}
use Rattle.commands.specs.Commands.{front_after}
use Rattle.list.specs.Rules.{same_bytes}
use Rattle.volume.specs.Judged.{tail, judged_from, judged}
use Rattle.volume.specs.History.{history_from, history}
use Rattle.volume.specs.Starred.{M, FileExample, file_found}
use Rattle.cutting.specs.CutFile.{cut_pages}

-- ---- the parts of a file of three pages

-- num 254, den 1 and mag 1000, as pre and post have them: 12 bytes (rule 3.8)
abbrev pub units : List ℕ
units = 0 ∷ 0 ∷ 0 ∷ 254 ∷ 0 ∷ 0 ∷ 0 ∷ 1 ∷ 0 ∷ 0 ∷ 3 ∷ 232 ∷ []

-- pre with a comment of three bytes: 18 bytes (rule 2.2)
abbrev pub preamble : List ℕ
preamble = (247 ∷ 2 ∷ []) ++ units ++ (3 ∷ 97 ∷ 98 ∷ 99 ∷ [])

-- what is said of font 7: check sum, scale, design size, no area, a name of two bytes: 16 bytes (rule 2.2)
abbrev pub of_font7 : List ℕ
of_font7 = 1 ∷ 2 ∷ 3 ∷ 4 ∷ 0 ∷ 10 ∷ 0 ∷ 0 ∷ 0 ∷ 10 ∷ 0 ∷ 0 ∷ 0 ∷ 2 ∷ 99 ∷ 109 ∷ []

-- what is said of font 200: check sum, scale, design size, an area of one byte, a name of one byte: 16 bytes (rule 2.2)
abbrev pub of_font200 : List ℕ
of_font200 = 5 ∷ 6 ∷ 7 ∷ 8 ∷ 0 ∷ 10 ∷ 0 ∷ 0 ∷ 0 ∷ 5 ∷ 0 ∷ 0 ∷ 1 ∷ 1 ∷ 120 ∷ 121 ∷ []

-- font 7 on page 1, its number in one byte: 18 bytes (rule 2.2)
abbrev pub definition7 : List ℕ
definition7 = (243 ∷ 7 ∷ []) ++ of_font7

-- font 200 on page 2, its number in four bytes: 21 bytes (rule 2.2)
abbrev pub definition200 : List ℕ
definition200 = (246 ∷ 0 ∷ 0 ∷ 0 ∷ 200 ∷ []) ++ of_font200

-- font 200 behind post, its number in one byte: 18 bytes (rule 3.5)
abbrev pub again200 : List ℕ
again200 = (243 ∷ 200 ∷ []) ++ of_font200

-- font 7 behind post, its number in two bytes: 19 bytes (rule 3.5)
abbrev pub again7 : List ℕ
again7 = (244 ∷ 0 ∷ 7 ∷ []) ++ of_font7

-- a pointer to a place below 256: 4 bytes (rule 3.7)
abbrev pub pointer : ℕ → List ℕ
pointer p = 0 ∷ 0 ∷ 0 ∷ p ∷ []

-- the first bop's pointer, −1: 4 bytes (rule 3.7)
abbrev pub no_pointer : List ℕ
no_pointer = replicate 4 255

-- bop, with ten counts of which each byte is the same, and a pointer: 45 bytes (rule 2.2)
abbrev pub bop : ℕ → List ℕ → List ℕ
bop count p = (139 ∷ []) ++ replicate 40 count ++ p

-- post with a pointer, l 16909060, u 84281096, a depth and a number of pages: 29 bytes (rule 2.2)
abbrev pub post : ℕ → ℕ → ℕ → List ℕ
post p depth pages = (248 ∷ []) ++ pointer p ++ units ++ (1 ∷ 2 ∷ 3 ∷ 4 ∷ 5 ∷ 6 ∷ 7 ∷ 8 ∷ []) ++ (0 ∷ depth ∷ 0 ∷ pages ∷ [])

-- post_post with a pointer, and so many 223s: 6 bytes and those (rules 2.2, 3.10)
abbrev pub ending : ℕ → ℕ → List ℕ
ending q fillers = (249 ∷ []) ++ pointer q ++ (2 ∷ []) ++ replicate fillers 223

-- ---- the old file: 297 bytes

-- page 1 at 19, up to 88: two levels deep, then font 7 is defined and selected, a character, eop (rule 3.2)
abbrev pub old_page1 : List ℕ
old_page1 = bop 11 no_pointer ++ (141 ∷ 141 ∷ 142 ∷ 142 ∷ []) ++ definition7 ++ (178 ∷ 65 ∷ 140 ∷ [])

-- page 2 at 91, up to 165: nop, push, font 200 is defined, a character of each font, pop, eop (rule 3.2)
abbrev pub old_page2 : List ℕ
old_page2 = bop 12 (pointer 19) ++ (138 ∷ 141 ∷ []) ++ definition200 ++ (178 ∷ 65 ∷ 235 ∷ 200 ∷ 66 ∷ 142 ∷ 140 ∷ [])

-- page 3 at 167, up to 215: a character of font 200, eop (rule 3.2)
abbrev pub old_page3 : List ℕ
old_page3 = bop 13 (pointer 91) ++ (235 ∷ 200 ∷ 67 ∷ 140 ∷ [])

-- a nop at 18, two at 89, one at 166 and one at 216; post at 217 says depth 3; a nop at 246; post_post at 284; seven 223s (rules 3.2, 3.8, 3.10)
abbrev pub three_pages : List ℕ
three_pages =
    preamble ++ (138 ∷ [])
    ++ old_page1 ++ (138 ∷ 138 ∷ [])
    ++ old_page2 ++ (138 ∷ [])
    ++ old_page3 ++ (138 ∷ [])
    ++ post 167 3 3 ++ (138 ∷ [])
    ++ again200 ++ again7
    ++ ending 217 7

-- ---- the new files

-- pre, then both definitions: 57 bytes, so the first page stands at 57 (rule 12.2)
abbrev pub new_opening : List ℕ
new_opening = preamble ++ definition7 ++ definition200

-- page 1 without its definition: 52 bytes (rule 12.3)
abbrev pub new_page1 : List ℕ → List ℕ
new_page1 p = bop 11 p ++ (141 ∷ 141 ∷ 142 ∷ 142 ∷ 178 ∷ 65 ∷ 140 ∷ [])

-- page 2 without its definition, with its nop: 54 bytes (rule 12.3)
abbrev pub new_page2 : List ℕ → List ℕ
new_page2 p = bop 12 p ++ (138 ∷ 141 ∷ 178 ∷ 65 ∷ 235 ∷ 200 ∷ 66 ∷ 142 ∷ 140 ∷ [])

-- page 3: 49 bytes (rule 12.3)
abbrev pub new_page3 : List ℕ → List ℕ
new_page3 p = bop 13 p ++ (235 ∷ 200 ∷ 67 ∷ 140 ∷ [])

-- from post on, without the nop: 72 bytes and the 223s (rules 12.3, 12.4)
abbrev pub new_end : ℕ → ℕ → ℕ → ℕ → ℕ → List ℕ
new_end p depth pages q fillers = post p depth pages ++ again200 ++ again7 ++ ending q fillers

-- page 1 alone: depth 2, post at 109; 181 bytes and seven 223s (rules 12.4, 12.5)
abbrev pub cut_to1 : List ℕ
cut_to1 = new_opening ++ new_page1 no_pointer ++ new_end 57 2 1 109 7

-- page 2 alone: depth 1, post at 111; 183 bytes and five 223s (rules 12.4, 12.5)
abbrev pub cut_to2 : List ℕ
cut_to2 = new_opening ++ new_page2 no_pointer ++ new_end 57 1 1 111 5

-- pages 1 and 3: the second bop at 109, depth 2, post at 158; 230 bytes and six 223s (rules 12.4, 12.5)
abbrev pub cut_to13 : List ℕ
cut_to13 = new_opening ++ new_page1 no_pointer ++ new_page3 (pointer 57) ++ new_end 109 2 2 158 6

-- all pages: bops at 57, 109 and 163, depth 2, post at 212; 284 bytes and four 223s (rules 12.4, 12.5)
abbrev pub cut_to_all : List ℕ
cut_to_all = new_opening ++ new_page1 no_pointer ++ new_page2 (pointer 57) ++ new_page3 (pointer 109) ++ new_end 163 2 3 212 4

-- ---- the examples

-- a file, a list of pages and the area's bytes, and the new file or the refusal (rule 9.10)
pub record CutExample : Type 0 where
  pub file : List ℕ
  pub list : List ℕ
  pub room : ℕ
  pub printed : Answer (List ℕ)

-- an example of the file of three pages (rule 9.10)
abbrev pub of_three : List ℕ → ℕ → Answer (List ℕ) → CutExample
of_three list room printed = record { file = three_pages; list = list; room = room; printed = printed }

-- page 1 and page 2, with room to spare; page 2, pages 1 and 3, all pages, with just enough room; all pages again of what they came to; M; no page, page 0, a page twice, falling pages, a page too high; one byte too few; a wrong list and no room; a wrong file, list and area (rules 9.10, 12.1, 12.5)
abbrev pub cut_examples : List CutExample
cut_examples =
    of_three (1 ∷ []) 297 (given cut_to1)
    ∷ of_three (2 ∷ []) 297 (given cut_to2)
    ∷ of_three (2 ∷ []) 188 (given cut_to2)
    ∷ of_three (1 ∷ 3 ∷ []) 236 (given cut_to13)
    ∷ of_three (1 ∷ 2 ∷ 3 ∷ []) 288 (given cut_to_all)
    ∷ record { file = cut_to_all; list = 1 ∷ 2 ∷ 3 ∷ []; room = 288; printed = given cut_to_all }
    ∷ record { file = M; list = 1 ∷ []; room = 100; printed = given M }
    ∷ of_three [] 300 (refused wrong_pages 0)
    ∷ of_three (0 ∷ []) 300 (refused wrong_pages 0)
    ∷ of_three (2 ∷ 2 ∷ []) 300 (refused wrong_pages 0)
    ∷ of_three (3 ∷ 2 ∷ []) 300 (refused wrong_pages 0)
    ∷ of_three (4 ∷ []) 300 (refused wrong_pages 0)
    ∷ of_three (2 ∷ []) 187 (refused area_too_short 0)
    ∷ of_three (4 ∷ []) 0 (refused wrong_pages 0)
    ∷ record { file = take 99 M; list = []; room = 0; printed = refused wrong_tail 99 }
    ∷ []

-- what the definitions give for an example (rule 9.10)
abbrev pub cut_found : CutExample → Answer (List ℕ)
cut_found e = cut_pages e.file e.list e.room

-- the definitions give what they must (rule 9.10)
pub cuts_hold : map cut_found cut_examples ≡ map (λ e. e.printed) cut_examples
unfolding unsigned_at bytes_of kind_of lengths fixed_length inner_length size_of front_after same_bytes tail judged_from judged history_from history
cuts_hold = refl

-- the check of the old file and of new ones: pages, fonts, depth and the place of post as worked above (rule 9.2)
abbrev pub check_examples : List FileExample
check_examples =
    record { file = three_pages; printed = given (record { pages = 3; fonts = 2; depth = 2; post = 217 }) }
    ∷ record { file = cut_to2; printed = given (record { pages = 1; fonts = 2; depth = 1; post = 111 }) }
    ∷ record { file = cut_to13; printed = given (record { pages = 2; fonts = 2; depth = 2; post = 158 }) }
    ∷ []

-- the definitions give what they must (rule 9.2)
pub checks_hold : map file_found check_examples ≡ map (λ e. e.printed) check_examples
unfolding unsigned_at kind_of lengths fixed_length inner_length size_of front_after same_bytes tail judged_from judged
checks_hold = refl
