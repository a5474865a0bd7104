-- `page::fonts::name_in` meets its contract: behind the area stands the name, or nothing. Assumes nothing.
use Rattle.names.specs.Names.{sought_name}
use Rattle.numbers.specs.Bytes.{unsigned_at}
use lib.ListN.{length, drop, drop_of_length-le}
use mathlib.Core.Logic.{⊎_elim}
use native.Mathlib.Omega.{arith}
use Prim.Native.Nat.{ℕ, ◌+◌, ◌≤◌}
use mathlib.Core.Path.{sym, ap, ◌∙◌}
use Rattle.page.proofs.fonts.name_in.Goals as goal

pub returns-in_default : goal.returns-in_default
unfolding sought_name unsigned_at
returns-in_default c =
    let said = c.args.said.now in
    let start = 14 + c.unsigned_in-area.result in
    let short : length said ≤ start = ⊎_elim (λ under. omega (arith, under)) (λ none. absurd (omega (arith, none))) c.in_default.ensures.lookup.0 in
    (sym (ap sought_name (ap (λ (n : ℕ). drop (14 + n) said) (sym c.unsigned_in-area.ensures.value) ∙ drop_of_length-le said {i = start} short)), (omega arith, omega arith))
