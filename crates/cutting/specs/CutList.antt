-- The commands of a file of chosen pages, out of those of the old file. In both lists the newest is first. Assumes nothing.
use Rattle.std.specs.Prelude.{ℕ, ◌+◌, ◌-◌, ◌%◌, Bool, false, cond, not, ◌&&◌, ◌||◌, List, [], ◌∷◌, ◌++◌, take, drop, ℤ, pos}
use Rattle.numbers.specs.Bytes.{bytes_of, signed_bytes_of}
use Rattle.commands.specs.declared.Kind.TheVariants.{Nop, Bop, Define, Pre, Post, PostPost}
use Rattle.commands.specs.Commands.{Command, kind_of_command, place}
use Rattle.commands.specs.declared.fields.UnsignedField.{UnsignedField}
use Rattle.commands.specs.declared.fields.SignedField.{SignedField}
use Rattle.commands.specs.Fields.{bop_pointer, post_pointer, post_depth, post_pages, end_pointer}
use Rattle.list.specs.Past.{is_a, stage, is_on_page, is_after_post, greatest, pages, last_bop, post_place, defines}
use Rattle.list.specs.Lawful.{fillers}

-- ---- what stands before the pages

-- pre, and the definitions before post, wherever they stood (rule 12.2)
abbrev pub opening : List Command → List Command
opening [] = []
opening (c ∷ past) = cond (is_a Pre c || defines false (stage past) (kind_of_command c)) (c ∷ opening past) (opening past)

-- ---- which of the other commands stay

-- a chosen page's bop; what stands on a chosen page, but for definitions; post; behind it all but nops (rule 12.3)
abbrev pub stays : (ℕ → Bool) → List Command → Command → Bool
stays chosen past c =
    cond (is_a Bop c) (chosen (pages past + 1))
    (cond (is_on_page (stage past)) (chosen (pages past) && not (is_a Define c))
    (is_a Post c || (is_after_post (stage past) && not (is_a Nop c))))

-- ---- what is mended in them

-- parameters with another number in a field with a sign (rule 12.4)
abbrev pub with_signed : SignedField → ℤ → List ℕ → List ℕ
with_signed field n params = take field.at params ++ (signed_bytes_of field.size n ++ drop (field.at + field.size) params)

-- with another number in a field without one (rule 12.4)
abbrev pub with_unsigned : UnsignedField → ℕ → List ℕ → List ℕ
with_unsigned field n params = take field.at params ++ (bytes_of field.size n ++ drop (field.at + field.size) params)

-- the parameters of a command for the commands that now stand before it: three kinds have a pointer, and post has a depth and a number of pages (rule 12.4)
abbrev pub mended_params : List Command → Command → List ℕ
mended_params before c =
    cond (is_a Bop c) (with_signed bop_pointer (last_bop before) c.params)
    (cond (is_a Post c)
    (with_unsigned post_pages (pages before) (with_unsigned post_depth (greatest before) (with_signed post_pointer (last_bop before) c.params)))
    (cond (is_a PostPost c) (with_signed end_pointer (pos (post_place before)) c.params) c.params))

-- the command with them (rule 12.4)
abbrev pub mended : List Command → Command → Command
mended before c = record { opcode = c.opcode; params = mended_params before c }

-- ---- the new list

-- upon what opens it, the commands that stay, each mended for those that now stand before it (rules 12.3, 12.4)
abbrev pub cut_after : List Command → (ℕ → Bool) → List Command → List Command
cut_after first chosen [] = first
cut_after first chosen (c ∷ past) =
    let before = cut_after first chosen past in cond (stays chosen past c) (mended before c ∷ before) before

-- the new list up to post_post (rules 12.2 to 12.4)
abbrev pub cut_past : (ℕ → Bool) → List Command → List Command
cut_past chosen old = cut_after (opening old) chosen old

-- how many 223s follow at a place: four, and up to three more to a multiple of four (rule 12.5)
abbrev pub fillers_at : ℕ → ℕ
fillers_at at = 4 + (4 - at % 4) % 4

-- a list with the newest first, and what follows it, in the order of a file (rule 12.5)
abbrev pub onto : List Command → List Command → List Command
onto [] later = later
onto (c ∷ past) later = onto past (c ∷ later)

-- the whole new list, in the order of a file (rule 12.5)
abbrev pub cut_list : (ℕ → Bool) → List Command → List Command
cut_list chosen old = let past = cut_past chosen old in onto past (fillers (fillers_at (place past)))
