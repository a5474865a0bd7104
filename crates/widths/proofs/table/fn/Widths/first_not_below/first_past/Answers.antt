-- The test of the search for a key meets its contract: a record's key is below another where its number is. Assumes nothing.
use mathlib.Core.Path.{ap, subst, ◌∙◌}
use Prim.Native.Nat.{ℕ}
use lib.Dec.{ltb}
use Rattle.widths.specs.Steps.{key_number, KeyAt}
use Rattle.widths.proofs.Keys.{in_key, key_is}
use Rattle.widths.proofs.KeyOrder.{below_number}
use Rattle.widths.proofs.table.fn.Widths.first_not_below.first_past.Goals as goal

pub returns : goal.returns
returns c =
    let table = c.captures.self.bytes.now in
    let here = subst (λ (n : ℕ). KeyAt table n c.key_at.result) c.place_of.ensures.place c.key_at.ensures in
    c.lt.ensures
    ∙ below_number c.key_at.result c.captures.key (in_key c.key_at.ensures) c.requires.1 c.key_at.ensures.code_below
    ∙ ap (λ (n : ℕ). ltb n (key_number c.captures.key)) (key_is table c.args.index c.key_at.result here)
