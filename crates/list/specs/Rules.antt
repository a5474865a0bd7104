-- The rules: one definition for each number of the list from 4 to 10, in its order. Each speaks of the commands before and of the command, and is true where the number is due.
-- Assumes nothing.
use Rattle.std.specs.Prelude.{ℕ, ◌≡◌, Bool, true, false, cond, not, ◌&&◌, ◌||◌, List, [], ◌∷◌, ltb, leb, eqb, ℤ, pos}
use Rattle.std.specs.Int.Signed.{le_z}
use Rattle.refusals.specs.Numbers.{wrong_preamble, misplaced_command, wrong_depth, wrong_font_definition, no_font, wrong_pointer, wrong_postamble}
use Rattle.numbers.specs.Signs.{same_number, positive}
use Rattle.numbers.specs.Sizes.{lawful_size}
use Rattle.commands.specs.declared.Kind.{Kind}
use Rattle.commands.specs.declared.Kind.TheVariants.{SetCharacter, PutCharacter, Nop, Bop, Eop, Push, Pop, Select, Define, Pre, Post, PostPost}
use Rattle.commands.specs.Kinds.{is}
use Rattle.commands.specs.Commands.{Command, kind_of_command}
use Rattle.commands.specs.declared.fields.UnsignedField.{UnsignedField}
use Rattle.commands.specs.Fields.{unsigned_in, signed_in, as_signed, bop_pointer, pre_identification, pre_num, pre_den, pre_mag, post_pointer, post_num, post_den, post_mag, post_depth, post_pages, end_pointer, end_identification}
use Rattle.commands.specs.Parameters.{selected_font, font_scale, font_design_size}
use Rattle.state.specs.Limits.{deepest, most_fonts}
use Rattle.list.specs.declared.Stage.{Stage}
use Rattle.list.specs.declared.Stage.TheVariants.{AtStart, BeforePages, OnPage, BetweenPages, AfterPost, AfterEnd}
use Rattle.list.specs.Past.{is_a, stage, is_after_post, depth, greatest, pages, last_bop, post_place, num, den, mag, selected, font_number, body, Definition, none, stands, definition_of, is_defined, font_count}

-- ---- 4: the preamble

-- no command has passed (rule 3.2)
abbrev pub is_at_start : Stage → Bool
is_at_start AtStart = true
is_at_start BeforePages = false
is_at_start OnPage = false
is_at_start BetweenPages = false
is_at_start AfterPost = false
is_at_start AfterEnd = false

-- a unit of pre is above zero, where it is read with a sign (rule 3.3)
abbrev pub positive_unit : UnsignedField → List ℕ → Bool
positive_unit field params = positive (signed_in (as_signed field) params)

-- pre has identification 2, and its three units are above zero (rule 3.3)
abbrev pub lawful_preamble : List ℕ → Bool
lawful_preamble params =
    eqb (unsigned_in pre_identification params) 2
    && (positive_unit pre_num params && (positive_unit pre_den params && positive_unit pre_mag params))

-- 4 is due: the first command is no right pre (rules 3.2, 3.3)
abbrev pub preamble_wrong : List Command → Command → Bool
preamble_wrong past c = is_at_start (stage past) && not (is_a Pre c && lawful_preamble c.params)

-- ---- 5: where a command may stand

-- outside pages stand nop, definitions and what begins the next part, post only after a page; on a page all but bop, pre and the ends of the file; 4 judges the start (rule 3.2)
abbrev pub may_stand : Stage → Kind → Bool
may_stand AtStart kind = true
may_stand BeforePages kind = is kind Nop || (is kind Define || is kind Bop)
may_stand OnPage kind = not (is kind Bop || (is kind Pre || (is kind Post || is kind PostPost)))
may_stand BetweenPages kind = is kind Nop || (is kind Define || (is kind Bop || is kind Post))
may_stand AfterPost kind = is kind Nop || (is kind Define || is kind PostPost)
may_stand AfterEnd kind = false

-- 5 is due (rule 3.2)
abbrev pub misplaced : List Command → Command → Bool
misplaced past c = not (may_stand (stage past) (kind_of_command c))

-- ---- 6: depth

-- a pop with nothing to pop, a push onto a full stack, the end of a page with something left on it (rule 3.4)
abbrev pub wrong_at_depth : Kind → ℕ → Bool
wrong_at_depth kind depth = (is kind Pop && eqb depth 0) || ((is kind Push && leb deepest depth) || (is kind Eop && ltb 0 depth))

-- 6 is due (rule 3.4)
abbrev pub depth_wrong : List Command → Command → Bool
depth_wrong past c = wrong_at_depth (kind_of_command c) (depth past)

-- ---- 7: font definitions

-- a font has a number from 0 to 255 (rule 3.5)
abbrev pub lawful_font : ℤ → Bool
lawful_font number = le_z (pos 0) number && le_z number (pos 255)

-- two lists of bytes are the same (rule 3.5)
unfoldable pub same_bytes : List ℕ → List ℕ → Bool
same_bytes [] [] = true
same_bytes [] (y ∷ ys) = false
same_bytes (x ∷ xs) [] = false
same_bytes (x ∷ xs) (y ∷ ys) = eqb x y && same_bytes xs ys

-- a definition says just this, from its check sum to the end of its name (rule 3.5)
abbrev pub says : Definition → List ℕ → Bool
says none bytes = false
says (stands at c) bytes = same_bytes (body c) bytes

-- before post a font that is new and not one too many; after it a font for the first time, that says what it said before (rule 3.5)
abbrev pub lawful_definition : List Command → Command → Bool
lawful_definition past c =
    lawful_font (font_number c)
    && (lawful_size (font_scale (body c))
    && (lawful_size (font_design_size (body c))
    && cond (is_after_post (stage past))
    (not (is_defined (definition_of true (font_number c) past)) && says (definition_of false (font_number c) past) (body c))
    (not (is_defined (definition_of false (font_number c) past)) && ltb (font_count false past) most_fonts)))

-- after post not as many fonts were defined as before it (rule 3.5)
abbrev pub font_left_out : List Command → Bool
font_left_out past = not (eqb (font_count true past) (font_count false past))

-- 7 is due (rule 3.5)
abbrev pub definition_wrong : List Command → Command → Bool
definition_wrong past c = (is_a Define c && not (lawful_definition past c)) || (is_a PostPost c && font_left_out past)

-- ---- 8: fonts that are missing

-- where 8 applies: a selection of a font that has no definition so far, a character on a page without a selection so far (rule 3.6)
abbrev pub font_missing : List Command → Command → Bool
font_missing past c =
    (is_a Select c && not (is_defined (definition_of false (selected_font c.opcode c.params) past)))
    || ((is_a SetCharacter c || is_a PutCharacter c) && not (selected past))

-- ---- 9: pointers

-- where 9 applies: a bop holds the place of the bop before it, the first −1; post that of the last bop, post_post that of post (rule 3.7)
abbrev pub pointer_wrong : List Command → Command → Bool
pointer_wrong past c =
    (is_a Bop c && not (same_number (signed_in bop_pointer c.params) (last_bop past)))
    || ((is_a Post c && not (same_number (signed_in post_pointer c.params) (last_bop past)))
    || (is_a PostPost c && not (same_number (signed_in end_pointer c.params) (pos (post_place past)))))

-- ---- 10: the postamble

-- s may be above the greatest depth, as in files of TeX, which counts a push that it drops with its pop; too small is wrong (rule 3.8)
abbrev pub right_depth : ℕ → ℕ → Bool
right_depth stated reached = leb reached stated

-- post has the three units of pre once more, a depth that is not too small, and the number of pages (rule 3.8)
abbrev pub lawful_postamble : ℕ → ℕ → ℕ → ℕ → ℕ → List ℕ → Bool
lawful_postamble num den mag greatest pages params =
    eqb (unsigned_in post_num params) num
    && (eqb (unsigned_in post_den params) den
    && (eqb (unsigned_in post_mag params) mag && (right_depth (unsigned_in post_depth params) greatest && eqb (unsigned_in post_pages params) pages)))

-- where 10 applies: a post that is not lawful, or a post_post with another identification than 2 (rules 3.8, 3.9)
abbrev pub postamble_wrong : List Command → Command → Bool
postamble_wrong past c =
    (is_a Post c && not (lawful_postamble (num past) (den past) (mag past) (greatest past) (pages past) c.params)) || (is_a PostPost c && not (eqb (unsigned_in end_identification c.params) 2))

-- ---- the lowest number that applies; 0 where none does

-- in the order of their numbers (rule 4.1)
abbrev pub fault : List Command → Command → ℕ
fault past c =
    cond (preamble_wrong past c) wrong_preamble
    (cond (misplaced past c) misplaced_command
    (cond (depth_wrong past c) wrong_depth
    (cond (definition_wrong past c) wrong_font_definition
    (cond (font_missing past c) no_font
    (cond (pointer_wrong past c) wrong_pointer
    (cond (postamble_wrong past c) wrong_postamble 0))))))

-- a command that keeps the rules after the commands before it (rule 3.11)
pub record Allowed (past : List Command) (c : Command) : Type 0 where
  pub preamble : preamble_wrong past c ≡ false
  pub standing : misplaced past c ≡ false
  pub depth_right : depth_wrong past c ≡ false
  pub definition : definition_wrong past c ≡ false
  pub font : font_missing past c ≡ false
  pub pointer : pointer_wrong past c ≡ false
  pub postamble : postamble_wrong past c ≡ false
