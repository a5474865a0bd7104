-- `commands::inner_length` meets its contract: the table says that the bytes it reads are there, and each arm reads what its kind reads. Assumes nothing.
use mathlib.Core.Path.{sym, ap₂}
use Prim.Native.Nat.{◌+◌}
use native.Mathlib.Nat.{add-zero}
use native.Mathlib.Omega.{arith}
use lib.Seq.{drop-drop}
use Rattle.commands.specs.declared.Kind.TheVariants.{Special, Define, Pre}
use Rattle.numbers.proofs.Bytes.{unsigned_one, unsigned_drop}
use Rattle.commands.proofs.ParameterLengths.{fixed_of, inner_special, inner_define, inner_pre, inner_below, inner_above}
use Rattle.commands.proofs.Opcodes.{range_kind}
use Rattle.commands.proofs.inner_length.Goals as goal

pub bounds-file-start : goal.bounds-file-start
bounds-file-start c = omega (arith, fixed_of c.args.opcode (range_kind Pre (omega arith) (omega arith)))

pub unsigned_at-requires : goal.unsigned_at-requires
unsigned_at-requires c = omega (arith, fixed_of c.args.opcode (range_kind Special (omega arith) (omega arith)))

pub bounds-file-said : goal.bounds-file-said
bounds-file-said c = omega (arith, fixed_of c.args.opcode (range_kind Define (omega arith) (omega arith)))

pub bounds-file-said-in-243-to-246 : goal.bounds-file-said-in-243-to-246
bounds-file-said-in-243-to-246 c = omega (arith, fixed_of c.args.opcode (range_kind Define (omega arith) (omega arith)))

pub returns-in-247 : goal.returns-in-247
returns-in-247 c =
    let a = c.args in
    rw (inner_pre _ _ (range_kind Pre {opcode = a.opcode} (omega arith) (omega arith)), unsigned_drop, unsigned_one) c.from.ensures

pub returns-in-239-to-242 : goal.returns-in-239-to-242
returns-in-239-to-242 c = let a = c.args in rw (inner_special a.opcode _ (range_kind Special (omega arith) (omega arith)), unsigned_drop, add-zero, ← c.from-count.ensures) c.unsigned_at.ensures.value

pub returns-in-243-to-246 : goal.returns-in-243-to-246
returns-in-243-to-246 c =
    let a = c.args in
    rw (inner_define a.opcode _ (range_kind Define (omega arith) (omega arith)))
    (simp (unsigned_drop, unsigned_one, drop-drop, ← c.from-in-243-to-246.ensures) (ap₂ ◌+◌ c.from-area_length.ensures c.from-name_length.ensures))

pub returns-in_default : goal.returns-in_default
returns-in_default c = sym (inner_below _ _ (omega arith))

pub returns-in_default-2 : goal.returns-in_default-2
returns-in_default-2 c = sym (inner_above _ _ (omega arith))
