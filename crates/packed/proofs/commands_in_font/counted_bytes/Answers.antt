-- `packed::commands_in_font::counted_bytes` meets its contract. Assumes nothing.
use Rattle.packed.proofs.Fields.{there}
use Rattle.packed.proofs.Forms.{Sized, form_sized, counted_packet, counted_special, counted_preamble}
use Rattle.packed.specs.declared.Form.{Form}
use Rattle.numbers.specs.Bytes.{unsigned_at}
use Rattle.numbers.proofs.Bytes.{power_le, unsigned_one}
use lib.ListN.{drop}
use mathlib.Core.Path.{sym, ap, subst, ◌∙◌}
use Prim.Native.Nat.{ℕ, ◌+◌, ◌-◌}
use native.Mathlib.Omega.{arith}
use Rattle.packed.proofs.commands_in_font.counted_bytes.Goals as goal

pub returns-then-opcode-le-LAST_FLAG : goal.returns-then-opcode-le-LAST_FLAG
returns-then-opcode-le-LAST_FLAG c =
    let a = c.args in
    let e = c.form_of-form.ensures in
    let s = subst (Sized a.opcode) (sym e) (form_sized a.opcode) in
    let u = c.unsigned_at in (
      ap (λ (n : ℕ). c.form_of-form.result.added + n) (u.ensures.value ∙ there a.pk.now a.from 0 a.from c.form_of-form.result.length (omega arith))
          ∙ ap (λ (f : Form). f.added + unsigned_at (drop a.from a.pk.now) 0 f.length) e
          ∙ counted_packet a.opcode (drop a.from a.pk.now) (omega arith),
      omega (arith, s.added_small, u.ensures.upper_bound),
    )

pub returns-then-opcode-le-SPECIAL4 : goal.returns-then-opcode-le-SPECIAL4
returns-then-opcode-le-SPECIAL4 c =
    let a = c.args in
    let u = c.unsigned_at-then-opcode-le-SPECIAL4 in (
      u.ensures.value ∙ there a.pk.now a.from 0 a.from _ (omega arith) ∙ counted_special a.opcode (drop a.from a.pk.now) (omega arith) (omega arith),
      omega (arith, u.ensures.upper_bound, power_le (a.opcode - 239) 4 (omega arith)),
    )

pub returns-then-opcode-eq-PREAMBLE : goal.returns-then-opcode-eq-PREAMBLE
returns-then-opcode-eq-PREAMBLE c =
    let a = c.args in
    let pk = a.pk.now in (
      c.from.ensures ∙ sym (unsigned_one pk (a.from + 1)) ∙ there pk a.from 1 (a.from + 1) 1 (omega arith) ∙ counted_preamble a.opcode (drop a.from pk) c.if-opcode-eq-PREAMBLE.true,
      omega (arith, (c.type_inv.pk (a.from + 1)).fits),
    )
