-- `list::fonts::note` meets its contract: a definition's lawful number is that of an entry. Assumes nothing.
use mathlib.Core.Path.{◌≡◌, sym, ◌∙◌}
use native.Mathlib.Omega.{arith}
use Rattle.std.proofs.Common.{rules}
use Rattle.commands.specs.declared.Kind.TheVariants.{Define}
use Rattle.commands.specs.Kinds.{kind_of}
use Rattle.commands.proofs.Opcodes.{kind_range}
use Rattle.commands.proofs.ParameterLengths.{fixed_of}
use Rattle.list.proofs.fonts.note.Goals as goal

pub defined_font-number-requires : goal.defined_font-number-requires
defined_font-number-requires c =
    let is : c.args.next.kind ≡ Define = search rules in
    let defining : kind_of c.args.next.opcode ≡ Define = sym c.args.next.right.0 ∙ is in
    let (low, high) = kind_range c.args.next.opcode (omega arith) defining in
    (low, high, omega (arith, fixed_of c.args.next.opcode defining, c.args.next.right.1))
