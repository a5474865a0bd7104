-- What the commands so far amount to. `past` is the list of the commands before, the newest first; each notion is a small recursion over it.
-- Assumes nothing.
use Rattle.std.specs.Prelude.{ℕ, ◌+◌, ◌-◌, max, Bool, true, false, cond, not, ◌&&◌, List, [], ◌∷◌, ℤ, pos, negsuc}
use Rattle.numbers.specs.Signs.{same_number}
use Rattle.commands.specs.declared.Kind.{Kind}
use Rattle.commands.specs.declared.Kind.TheVariants.{Bop, Eop, Push, Pop, Select, Define, Pre, Post, PostPost}
use Rattle.commands.specs.Kinds.{is}
use Rattle.commands.specs.Commands.{Command, kind_of_command, place}
use Rattle.commands.specs.declared.fields.UnsignedField.{UnsignedField}
use Rattle.commands.specs.Fields.{unsigned_in, pre_num, pre_den, pre_mag}
use Rattle.commands.specs.Parameters.{defined_font, definition}
use Rattle.list.specs.declared.Stage.{Stage}
use Rattle.list.specs.declared.Stage.TheVariants.{AtStart, BeforePages, OnPage, BetweenPages, AfterPost, AfterEnd}

-- whether a command is of a kind (rule 2.2)
abbrev pub is_a : Kind → Command → Bool
is_a kind c = is (kind_of_command c) kind

-- ---- where the list stands: pre, pages from bop to eop, post, post_post

-- the stage after a command of a kind (rule 3.2)
abbrev pub stage_after : Kind → Stage → Stage
stage_after kind stage =
    cond (is kind Pre) BeforePages
    (cond (is kind Bop) OnPage
    (cond (is kind Eop) BetweenPages (cond (is kind Post) AfterPost (cond (is kind PostPost) AfterEnd stage))))

-- the stage after the commands (rule 3.2)
abbrev pub stage : List Command → Stage
stage [] = AtStart
stage (c ∷ past) = stage_after (kind_of_command c) (stage past)

-- between a bop and its eop (rule 3.2)
abbrev pub is_on_page : Stage → Bool
is_on_page AtStart = false
is_on_page BeforePages = false
is_on_page OnPage = true
is_on_page BetweenPages = false
is_on_page AfterPost = false
is_on_page AfterEnd = false

-- whether post has passed (rule 3.2)
abbrev pub is_after_post : Stage → Bool
is_after_post AtStart = false
is_after_post BeforePages = false
is_after_post OnPage = false
is_after_post BetweenPages = false
is_after_post AfterPost = true
is_after_post AfterEnd = true

-- ---- depth

-- push goes one deeper, pop one back (rule 3.4)
abbrev pub depth_after : Kind → ℕ → ℕ
depth_after kind depth = cond (is kind Push) (depth + 1) (cond (is kind Pop) (depth - 1) depth)

-- the depth after the commands (rule 3.4)
abbrev pub depth : List Command → ℕ
depth [] = 0
depth (c ∷ past) = depth_after (kind_of_command c) (depth past)

-- the greatest depth that was reached (rule 3.4)
abbrev pub greatest : List Command → ℕ
greatest [] = 0
greatest (c ∷ past) = max (greatest past) (depth (c ∷ past))

-- ---- pages and pointers

-- how many pages have begun (rule 3.8)
abbrev pub pages : List Command → ℕ
pages [] = 0
pages (c ∷ past) = cond (is_a Bop c) (pages past + 1) (pages past)

-- the place of the last bop; −1 before the first (rule 3.7)
abbrev pub last_bop : List Command → ℤ
last_bop [] = negsuc 0
last_bop (c ∷ past) = cond (is_a Bop c) (pos (place past)) (last_bop past)

-- the place of post (rule 3.7)
abbrev pub post_place : List Command → ℕ
post_place [] = 0
post_place (c ∷ past) = cond (is_a Post c) (place past) (post_place past)

-- ---- the preamble

-- a field of the last pre (rule 3.3)
abbrev pub unit_in : UnsignedField → List Command → ℕ
unit_in field [] = 0
unit_in field (c ∷ past) = cond (is_a Pre c) (unsigned_in field c.params) (unit_in field past)

-- its num (rule 3.3)
abbrev pub num : List Command → ℕ
num past = unit_in pre_num past

-- its den (rule 3.3)
abbrev pub den : List Command → ℕ
den past = unit_in pre_den past

-- its mag (rule 3.3)
abbrev pub mag : List Command → ℕ
mag past = unit_in pre_mag past

-- ---- fonts

-- a font was selected on this page (rule 3.6)
abbrev pub selected : List Command → Bool
selected [] = false
selected (c ∷ past) = cond (is_a Bop c) false (cond (is_a Select c) true (selected past))

-- the number that a definition gives its font (rule 3.5)
abbrev pub font_number : Command → ℤ
font_number c = defined_font c.opcode c.params

-- what a definition says of its font: all but the number (rule 3.5)
abbrev pub body : Command → List ℕ
body c = definition c.opcode c.params

-- a definition that stands before post, or after it (rule 3.5)
abbrev pub defines : Bool → Stage → Kind → Bool
defines after stage kind = is kind Define && cond after (is_after_post stage) (not (is_after_post stage))

-- a font's definition, if there is one: its place and the command (rule 3.5)
pub data Definition : Type 0 where
  none : Definition
  stands : ℕ → Command → Definition

-- the definition of a font number before post, or after it (rule 3.5)
abbrev pub definition_of : Bool → ℤ → List Command → Definition
definition_of after number [] = none
definition_of after number (c ∷ past) =
    cond (defines after (stage past) (kind_of_command c) && same_number (font_number c) number)
    (stands (place past) c)
    (definition_of after number past)

-- whether there is one (rule 3.5)
abbrev pub is_defined : Definition → Bool
is_defined none = false
is_defined (stands at c) = true

-- how many fonts are defined before post, or after it (rule 3.5)
abbrev pub font_count : Bool → List Command → ℕ
font_count after [] = 0
font_count after (c ∷ past) = cond (defines after (stage past) (kind_of_command c)) (font_count after past + 1) (font_count after past)
