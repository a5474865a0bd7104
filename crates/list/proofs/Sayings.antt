-- What a definition says, where it stands in a file: where its bytes are, and how many. Assumes nothing.
use mathlib.Core.Path.{◌≡◌, refl, sym, ap, ◌∙◌}
use mathlib.Core.List.{List, ◌++◌}
use Prim.Native.Nat.{ℕ, ◌+◌, ◌-◌, ◌≤◌}
use native.Mathlib.Nat.{add-zero}
use native.Mathlib.Omega.{arith}
use lib.ListN.{length, get_or, take, drop, length-drop}
use lib.Seq.{drop-drop, drop-append-le, get_or-drop, take_at}
use Rattle.numbers.specs.Bytes.{unsigned_at}
use Rattle.numbers.proofs.Bytes.{unsigned_one, unsigned_drop, unsigned_front}
use Rattle.commands.specs.declared.Kind.TheVariants.{Define}
use Rattle.commands.specs.declared.fields.UnsignedField.{UnsignedField}
use Rattle.commands.specs.Fields.{unsigned_in, definition_number_size, definition_area_length, definition_name_length, definition_name}
use Rattle.commands.specs.Commands.{Command, Whole, kind_of_command, form, whole, front}
use Rattle.commands.proofs.Opcodes.{kind_range}
use Rattle.commands.proofs.ParameterLengths.{fixed_of, inner_define, whole_size}
use Rattle.commands.proofs.Fronts.{front_sound, front_length}
use Rattle.list.specs.Past.{body}
use Rattle.list.specs.Steps.{saying_part}

module _ (file : List ℕ) (at : ℕ) {c : Command} {rest : List ℕ} (ahead : front (drop at file) ≡ whole c rest) (define : kind_of_command c ≡ Define) where
  good : Whole c
  good = (front_sound (drop at file) c rest ahead).0

  there : drop at file ≡ form c ++ rest
  there = (front_sound (drop at file) c rest ahead).1

  pub inside : at + 1 + length c.params ≤ length file
  inside = omega (arith, front_length (drop at file) c rest ahead, length-drop at file)

  -- ---- the opcode

  opcode_in : (243 ≤ c.opcode) × (c.opcode ≤ 246)
  opcode_in = kind_range c.opcode (omega (arith, good.defined)) define

  opcode_there : get_or file at 0 ≡ c.opcode
  opcode_there = ap (λ (index : ℕ). get_or file index 0) (sym (add-zero at)) ∙ sym (get_or-drop at file 0 0) ∙ ap (λ (bytes : List ℕ). get_or bytes 0 0) there

  pub opcode_between : (243 ≤ get_or file at 0) × (get_or file at 0 ≤ 246)
  opcode_between = rw opcode_there opcode_in

  -- ---- how many bytes

  length_body : length (body c) ≡ length c.params - definition_number_size c.opcode
  length_body = length-drop (definition_number_size c.opcode) c.params

  params_long : length c.params ≡ definition_number_size c.opcode + definition_name + (unsigned_in definition_area_length (body c) + unsigned_in definition_name_length (body c))
  params_long = omega (arith, whole_size c good, fixed_of c.opcode define, inner_define c.opcode c.params define, opcode_in)

  -- check sum, s, d, a and l are there
  pub body_long : definition_name ≤ length (body c)
  body_long = omega (arith, length_body, params_long)

  pub body_all : (saying_part at c).end - (saying_part at c).start ≡ length (body c)
  body_all = omega (arith, length_body)

  -- ---- which bytes

  body_there : drop (saying_part at c).start file ≡ body c ++ rest
  body_there =
      sym (drop-drop (definition_number_size c.opcode) (at + 1) file)
      ∙ ap (drop (definition_number_size c.opcode)) (sym (drop-drop 1 at file) ∙ ap (drop 1) there)
      ∙ drop-append-le (definition_number_size c.opcode) c.params rest (omega (arith, params_long))

  pub field_there : (field : UnsignedField) → field.at + field.size ≤ definition_name
      → unsigned_at file ((saying_part at c).start + field.at) field.size ≡ unsigned_in field (body c)
  field_there field h =
      sym (unsigned_drop file (saying_part at c).start field.at field.size)
      ∙ ap (unsigned_in field) body_there
      ∙ unsigned_front (body c) rest field.at field.size (omega (arith, body_long))

  byte_there : (field : UnsignedField) → field.at + field.size ≤ definition_name → field.size ≡ 1
      → get_or file ((saying_part at c).start + field.at) 0 ≡ unsigned_in field (body c)
  byte_there field h one =
      sym (unsigned_one file ((saying_part at c).start + field.at))
      ∙ ap (unsigned_at file ((saying_part at c).start + field.at)) (sym one)
      ∙ field_there field h

  pub part_says : take ((saying_part at c).end - (saying_part at c).start) (drop (saying_part at c).start file) ≡ body c
  part_says = ap (take ((saying_part at c).end - (saying_part at c).start)) body_there ∙ take_at (body c) rest _ (sym body_all)

  pub part_within : ((saying_part at c).start + definition_name ≤ (saying_part at c).end) × ((saying_part at c).end ≤ length file)
  part_within = (omega (arith, params_long), inside)

  -- ---- the opcode tells where the part starts, and its own lengths where it ends

  module _ {opcode from : ℕ} (opcode-is : opcode ≡ get_or file at 0) (from-is : from ≡ definition_number_size opcode) where
    pub start_is : at + 1 + from ≡ (saying_part at c).start
    start_is = ap (λ (count : ℕ). at + 1 + count) (from-is ∙ ap definition_number_size (opcode-is ∙ opcode_there))

    length_is : (field : UnsignedField) → field.at + field.size ≤ definition_name → field.size ≡ 1 → get_or file (at + 1 + from + field.at) 0 ≡ unsigned_in field (body c)
    length_is field h one = ap (λ (start : ℕ). get_or file (start + field.at) 0) start_is ∙ byte_there field h one

    pub end_is : {area name : ℕ} → area ≡ get_or file (at + 1 + from + definition_area_length.at) 0 → name ≡ get_or file (at + 1 + from + definition_name_length.at) 0
        → at + 1 + from + definition_name + area + name ≡ (saying_part at c).end
    end_is area-is name-is =
        omega (arith, start_is, area-is ∙ length_is definition_area_length (omega arith) refl, name-is ∙ length_is definition_name_length (omega arith) refl, params_long)
