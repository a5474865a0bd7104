-- `list::fonts::lawful_definition` meets its contract: what each test tells of the definition, and what the tables' entries tell. Assumes nothing.
use mathlib.Core.Path.{◌≡◌, sym, ap, ◌∙◌}
use mathlib.Core.Bool.{Bool, true, false}
use mathlib.Core.List.{List}
use Prim.Native.Nat.{ℕ, ◌-◌, ◌≤◌, ◌<◌}
use native.Mathlib.Omega.{arith}
use lib.Dec.{ltb}
use lib.ListN.{length, take, drop, length-drop}
use lib.Seq.{take_all}
use lib.IntN.{ℤ}
use mir.Syntax.{w64}
use mir.Val.{to_z, of_z}
use Rattle.numbers.specs.Sizes.{lawful_size}
use Rattle.commands.specs.Fields.{definition_number_size, definition_name}
use Rattle.commands.specs.declared.Kind.TheVariants.{Define}
use Rattle.commands.specs.Kinds.{kind_of}
use Rattle.commands.specs.Lengths.{fixed_length}
use Rattle.commands.specs.Parameters.{defined_font, definition, font_scale, font_design_size}
use Rattle.commands.proofs.Opcodes.{kind_range}
use Rattle.commands.proofs.ParameterLengths.{fixed_of}
use Rattle.state.specs.Limits.{most_fonts}
use Rattle.std.specs.Option.{is_some}
use Rattle.std.specs.declared.option.Option.{Option}
use Rattle.std.specs.declared.option.Option.TheVariants.{Some}
use Rattle.commands.specs.Commands.{Command}
use Rattle.list.specs.Past.{is_after_post, definition_of, is_defined}
use Rattle.list.specs.Steps.{place_in, Tells}
use Rattle.list.specs.Rules.{lawful_font, says}
use Rattle.list.proofs.Numbers.{number_is}
use Rattle.list.proofs.FontTables.{place_of, some_defined, told_place, told_says, leads, wrong_scale_lem, wrong_design_size, turn_decides, once_after, once_before}
use Rattle.list.proofs.fonts.lawful_definition.Goals as goal

-- ---- of a definition's opcode and parameters

module _ (opcode : ℕ) (params : List ℕ) where
  module _ (small : opcode < 256) (defining : kind_of opcode ≡ Define) (room : fixed_length opcode ≤ length params) where
    opcode_in : (243 ≤ opcode) × (opcode ≤ 246) × (opcode - 228 ≤ length params)
    opcode_in =
        let (low, high) = kind_range opcode small defining in
        (low, high, omega (arith, fixed_of opcode defining))

    said_long : definition_name ≤ length (definition opcode params)
    said_long = omega (arith, opcode_in, length-drop (definition_number_size opcode) params)

  -- the part of the parameters that the code cuts off
  said_is : {from : ℕ} → from ≡ definition_number_size opcode → take (length params - from) (drop from params) ≡ definition opcode params
  said_is {from} e = take_all (length params - from) (drop from params) (omega (arith, length-drop from params)) ∙ ap (λ (n : ℕ). drop n params) e

-- what a test of x told is so of y, which is x
tested : {A : Type 0} (f : A → Bool) {x y : A} → x ≡ y → {t told : Bool} → t ≡ f x → t ≡ told → f y ≡ told
tested f e asked answer = ap f (sym e) ∙ sym asked ∙ answer

-- a number of which a table tells no place is not defined
not_told : {after : Bool} (table : List ℕ) {past : List Command} (number : ℤ) → Tells after table past → lawful_font number ≡ true → {place : Option ℕ} → place ≡ place_in table number → is_some place ≡ false
    → is_defined (definition_of after number past) ≡ false
not_told table number tells lawful place_is e = sym (ap is_some (place_is ∙ told_place table number tells lawful) ∙ some_defined _) ∙ e

pub defined_font-number-requires : goal.defined_font-number-requires
defined_font-number-requires c =
    let (low, high, long) = opcode_in c.args.next.opcode c.args.next.params.now (omega arith) (sym c.args.next.right.0 ∙ c.requires) c.args.next.right.1 in
    (low, high, omega arith)

pub overflow_sub-next : goal.overflow_sub-next
overflow_sub-next c = omega (arith, opcode_in c.args.next.opcode c.args.next.params.now (omega arith) (sym c.args.next.right.0 ∙ c.requires) c.args.next.right.1)

pub slice_bounds-said-count : goal.slice_bounds-said-count
slice_bounds-said-count c = omega (arith, opcode_in c.args.next.opcode c.args.next.params.now (omega arith) (sym c.args.next.right.0 ∙ c.requires) c.args.next.right.1)

pub slice_bounds-said-start : goal.slice_bounds-said-start
slice_bounds-said-start c = omega (arith, opcode_in c.args.next.opcode c.args.next.params.now (omega arith) (sym c.args.next.right.0 ∙ c.requires) c.args.next.right.1)

pub unsigned_in-requires : goal.unsigned_in-requires
unsigned_in-requires c =
    rw (said_is c.args.next.opcode c.args.next.params.now c.from.ensures)
    (omega (arith, said_long c.args.next.opcode c.args.next.params.now (omega arith) (sym c.args.next.right.0 ∙ c.requires) c.args.next.right.1), omega arith)

pub returns-then-not-lawful_size : goal.returns-then-not-lawful_size
returns-then-not-lawful_size c past early late standing stage_is count_is =
    wrong_scale_lem past c.args.next.opcode c.args.next.params.now
    (tested lawful_font (number_is c.defined_font-number.type_inv c.defined_font-number.ensures.0) c.lawful_font.ensures c.if-not-lawful_font.false)
    (tested lawful_size (c.unsigned_in.ensures.value ∙ ap font_scale (said_is c.args.next.opcode c.args.next.params.now c.from.ensures)) c.lawful_size.ensures c.if-not-lawful_size.true)

pub unsigned_in-requires-2 : goal.unsigned_in-requires-2
unsigned_in-requires-2 c =
    rw (said_is c.args.next.opcode c.args.next.params.now c.from.ensures)
    (omega (arith, said_long c.args.next.opcode c.args.next.params.now (omega arith) (sym c.args.next.right.0 ∙ c.requires) c.args.next.right.1), omega arith)

pub returns-then-not-lawful_size-2 : goal.returns-then-not-lawful_size-2
returns-then-not-lawful_size-2 c past early late standing stage_is count_is =
    wrong_design_size past c.args.next.opcode c.args.next.params.now
    (tested lawful_font (number_is c.defined_font-number.type_inv c.defined_font-number.ensures.0) c.lawful_font.ensures c.if-not-lawful_font.false)
    (tested lawful_size (c.unsigned_in.ensures.value ∙ ap font_scale (said_is c.args.next.opcode c.args.next.params.now c.from.ensures)) c.lawful_size.ensures c.if-not-lawful_size.false)
    (tested lawful_size (c.unsigned_in-2.ensures.value ∙ ap font_design_size (said_is c.args.next.opcode c.args.next.params.now c.from.ensures)) c.lawful_size-2.ensures c.if-not-lawful_size-2.true)

pub returns-then-is_none : goal.returns-then-is_none
returns-then-is_none c past early late standing stage_is count_is =
    let opcode : ℕ = c.args.next.opcode in
    let params : List ℕ = c.args.next.params.now in
    let number : ℤ = defined_font opcode params in
    let named : to_z w64 (of_z w64 c.defined_font-number.result) ≡ number = number_is c.defined_font-number.type_inv c.defined_font-number.ensures.0 in
    let lawful : lawful_font number ≡ true = tested lawful_font named c.lawful_font.ensures c.if-not-lawful_font.false in
    ap (λ (count : ℕ). ltb count most_fonts) count_is
    ∙ once_before past number (definition opcode params) (tested is_after_post stage_is c.after_post.ensures c.if-not-after_post.true)
    (not_told c.args.fonts.now number early lawful (c.place_of-early.ensures ∙ ap (place_in c.args.fonts.now) named) (c.if-is_none.ensures))
    ∙ turn_decides past opcode params lawful
    (tested lawful_size (c.unsigned_in.ensures.value ∙ ap font_scale (said_is opcode params c.from.ensures)) c.lawful_size.ensures c.if-not-lawful_size.false)
    (tested lawful_size (c.unsigned_in-2.ensures.value ∙ ap font_design_size (said_is opcode params c.from.ensures)) c.lawful_size-2.ensures c.if-not-lawful_size-2.false)

pub returns-then-is_none-2 : goal.returns-then-is_none-2
returns-then-is_none-2 c past early late standing stage_is count_is =
    let opcode : ℕ = c.args.next.opcode in
    let params : List ℕ = c.args.next.params.now in
    let number : ℤ = defined_font opcode params in
    let named : to_z w64 (of_z w64 c.defined_font-number.result) ≡ number = number_is c.defined_font-number.type_inv c.defined_font-number.ensures.0 in
    let lawful : lawful_font number ≡ true = tested lawful_font named c.lawful_font.ensures c.if-not-lawful_font.false in
    let there : place_of (definition_of false number past) ≡ Some c.in-Some.at =
    sym (c.place_of-early.ensures ∙ ap (place_in c.args.fonts.now) named ∙ told_place c.args.fonts.now number early lawful) ∙ c.in-Some.is in
    told_says (leads standing number lawful there) _ _ c.same_definition.ensures
    ∙ ap (says (definition_of false number past)) (said_is opcode params c.from.ensures)
    ∙ once_after past number (definition opcode params) (tested is_after_post stage_is c.after_post.ensures c.if-not-after_post.false)
    (not_told c.args.again.now number late lawful (c.place_of.ensures ∙ ap (place_in c.args.again.now) named) (c.if-is_none-2.ensures))
    ∙ turn_decides past opcode params lawful
    (tested lawful_size (c.unsigned_in.ensures.value ∙ ap font_scale (said_is opcode params c.from.ensures)) c.lawful_size.ensures c.if-not-lawful_size.false)
    (tested lawful_size (c.unsigned_in-2.ensures.value ∙ ap font_design_size (said_is opcode params c.from.ensures)) c.lawful_size-2.ensures c.if-not-lawful_size-2.false)
