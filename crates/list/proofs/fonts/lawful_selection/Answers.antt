-- `list::fonts::lawful_selection` meets its contract: the place that the table tells says whether the font is defined. Assumes nothing.
use mathlib.Core.Path.{ap, sym, ◌∙◌}
use mathlib.Core.Bool.{false}
use native.Mathlib.Omega.{arith}
use Rattle.std.specs.Option.{is_some}
use Rattle.commands.specs.Parameters.{selected_font}
use Rattle.commands.proofs.Opcodes.{kind_range}
use Rattle.commands.proofs.ParameterLengths.{fixed_of}
use Rattle.list.specs.Past.{definition_of}
use Rattle.list.specs.Steps.{place_in}
use Rattle.list.proofs.Numbers.{number_is}
use Rattle.list.proofs.FontTables.{told_any, some_defined}
use Rattle.list.proofs.fonts.lawful_selection.Goals as goal

pub selected_font-requires : goal.selected_font-requires
selected_font-requires c =
    let (low, high) = kind_range c.args.next.opcode (omega arith) (sym c.args.next.right.0 ∙ c.requires) in
    (low, high, omega (arith, fixed_of c.args.next.opcode (sym c.args.next.right.0 ∙ c.requires), c.args.next.right.1))

pub returns : goal.returns
returns c past tells lawfully =
    let number = selected_font c.args.next.opcode c.args.next.params.now in
    c.is_some.ensures
    ∙ ap is_some (c.place_of.ensures ∙ ap (place_in c.args.fonts.now) (number_is c.selected_font.type_inv c.selected_font.ensures.0) ∙ told_any c.args.fonts.now number tells lawfully)
    ∙ some_defined (definition_of false number past)
