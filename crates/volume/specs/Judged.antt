-- The judgement of a file, from its front on. Assumes nothing.
use Rattle.std.specs.Prelude.{ℕ, zero, suc, Bool, true, false, List, [], ◌∷◌, ltb, eqb, length}
use Rattle.refusals.specs.Numbers.{file_too_long, file_ends, undefined_opcode, wrong_tail}
use Rattle.refusals.specs.Answer.{Answer, refused, given, refuse_if}
use Rattle.commands.specs.declared.Kind.TheVariants.{PostPost}
use Rattle.commands.specs.Commands.{Command, Front, cut, undefined, whole, front, place}
use Rattle.commands.specs.Reading.{longest_file}
use Rattle.volume.specs.declared.Summary.{Summary}
use Rattle.list.specs.Past.{is_a, pages, font_count, greatest, post_place}
use Rattle.list.specs.Rules.{fault}

-- what the check gives of a list: pages, fonts, greatest depth, the place of post (rule 9.2)
abbrev pub summary : List Command → Summary
summary past = record { pages = pages past; fonts = font_count false past; depth = greatest past; post = post_place past }

-- what follows post_post: 223s to the end, of which so many passed before this place, and four at the least (rules 3.10, 4.2)
unfoldable pub tail : Summary → ℕ → ℕ → List ℕ → Answer Summary
tail found at passed [] = refuse_if (ltb passed 4) wrong_tail at (given found)
tail found at passed (byte ∷ bytes) = elim (eqb byte 223) [ true ↦ tail found (suc at) (suc passed) bytes | false ↦ refused wrong_tail at ]

-- 2 or 3 where no command stands, else what follows of it (rule 4.1)
abbrev pub on_front : ℕ → Front → (Command → List ℕ → Answer Summary) → Answer Summary
on_front at cut next = refused file_ends at
on_front at undefined next = refused undefined_opcode at
on_front at (whole c rest) next = next c rest

-- a number that is due is the refusal's, at the command's place; 0 goes on (rule 4.1)
abbrev pub on_fault : ℕ → ℕ → (Unit {0} → Answer Summary) → Answer Summary
on_fault at zero next = next tt
on_fault at (suc n) next = refused (suc n) at

-- the tail after post_post, the next command after any other (rule 4.2)
abbrev pub on_end : Bool → (Unit {0} → Answer Summary) → (Unit {0} → Answer Summary) → Answer Summary
on_end true last next = last tt
on_end false last next = next tt

-- the bytes after the commands before, in at most so many steps (rule 4.1)
unfoldable pub judged_from : ℕ → List Command → List ℕ → Answer Summary
judged_from zero past bytes = refused file_ends (place past)
judged_from (suc left) past bytes =
    on_front (place past) (front bytes) (λ c rest.
    on_fault (place past) (fault past c) (λ _.
    on_end (is_a PostPost c) (λ _. tail (summary (c ∷ past)) (place (c ∷ past)) 0 rest) (λ _. judged_from left (c ∷ past) rest)))

-- what check_file answers: the length is judged before any command; a file has no more commands than bytes (rules 4.2, 9.2)
unfoldable pub judged : List ℕ → Answer Summary
judged file = refuse_if (ltb longest_file (length file)) file_too_long 0 (judged_from (suc (length file)) [] file)
