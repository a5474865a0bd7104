-- The bytes of a font's name are the last ones of the parameters of its definition, wherever that stands in the file. Assumes nothing.
use Prim.Native.Nat.{ℕ, zero, suc, ◌+◌, ◌-◌}
use mathlib.Core.Path.{◌≡◌, refl, sym, ap, ap₂, ◌∙◌}
use mathlib.Core.Bool.{Bool, true, false, cond, ◌&&◌}
use mathlib.Core.List.{List, [], ◌∷◌, ◌++◌}
use native.Mathlib.Omega.{arith}
use lib.IntN.{ℤ}
use lib.ListN.{length, take, drop}
use lib.Seq.{take_at, drop-drop}
use Rattle.numbers.specs.Signs.{same_number}
use Rattle.commands.specs.Fields.{definition_number_size, definition_name}
use Rattle.commands.specs.Commands.{Command, kind_of_command, whole, front, place}
use Rattle.commands.proofs.Fronts.{front_sound}
use Rattle.list.specs.Past.{stage, font_number, defines, Definition, none, stands, definition_of}
use Rattle.volume.specs.Names.{part_of, named_by}
use Rattle.page.specs.Trace.{Trace, start, more}

-- from a place on to the end of some bytes that others follow
rest_of : (n : ℕ) (xs ys : List ℕ) → take (length xs - n) (drop n (xs ++ ys)) ≡ drop n xs
rest_of zero xs ys = take_at xs ys (length xs - 0) (omega arith)
rest_of (suc n) [] ys = let none_left : 0 - suc n ≡ 0 = omega arith in ap (λ (k : ℕ). take k (drop (suc n) ys)) none_left
rest_of (suc n) (x ∷ xs) ys = let left : suc (length xs) - suc n ≡ length xs - n = omega arith in ap (λ (k : ℕ). take k (drop n (xs ++ ys))) left ∙ rest_of n xs ys

-- the name that a definition has among its parameters
abbrev pub name_in : Definition → List ℕ
name_in none = []
name_in (stands at c) = drop (definition_number_size c.opcode + definition_name) c.params

-- the bytes of the part that a command at a place has for its name
part_bytes : (file : List ℕ) (at : ℕ) (c : Command) (rest : List ℕ) → front (drop at file) ≡ whole c rest
    → part_of file (named_by (stands at c)) ≡ name_in (stands at c)
part_bytes file at c rest f =
    let skipped = definition_number_size c.opcode + definition_name in
    let long : at + 1 + length c.params - (at + 1 + definition_number_size c.opcode + definition_name) ≡ length c.params - skipped = omega arith in
    let far : at + 1 + definition_number_size c.opcode + definition_name ≡ at + suc skipped = omega arith in
    let there : drop (at + suc skipped) file ≡ drop skipped (c.params ++ rest) = sym (drop-drop (suc skipped) at file) ∙ ap (drop (suc skipped)) (front_sound (drop at file) c rest f).1 in
    ap₂ (λ (n k : ℕ). take n (drop k file)) long far
    ∙ ap (take (length c.params - skipped)) there
    ∙ rest_of skipped c.params rest

-- of the commands that stand in a file
pub named_bytes : (file : List ℕ) (past : List Command) → Trace file past → (after : Bool) (number : ℤ)
    → part_of file (named_by (definition_of after number past)) ≡ name_in (definition_of after number past)
named_bytes file past start after number = refl
named_bytes file past (more {past = before} c rest t f allowed) after number =
    by (defines after (stage before) (kind_of_command c) && same_number (font_number c) number) (named_bytes file before t after number)
  where
    by : (here : Bool) → part_of file (named_by (definition_of after number before)) ≡ name_in (definition_of after number before)
        → part_of file (named_by (cond here (stands (place before) c) (definition_of after number before)))
        ≡ name_in (cond here (stands (place before) c) (definition_of after number before))
    by true earlier = part_bytes file (place before) c rest f
    by false earlier = earlier
