-- `areas::paste_part` meets its contract: so many bytes are pasted as the loop has gone round. Assumes nothing.
use Prim.Native.Nat.{ℕ, ◌+◌}
use mathlib.Core.List.{List}
use mathlib.Core.Path.{sym, ap, ◌∙◌}
use native.Mathlib.Omega.{arith}
use native.Mathlib.Numerals.{add-one}
use lib.ListN.{set, get_or}
use lib.Seq.{paste, paste-suc}
use Rattle.areas.proofs.paste_part.Goals as goal

pub loop-index-preserved : goal.loop-index-preserved
loop-index-preserved c =
    let area = c.args.out.now in
    let at = c.args.at in
    let bytes = c.args.bytes.now in
    let index = c.loop-index.index in
    ap (λ (l : List ℕ). set l (at + index) (get_or bytes index 0)) c.loop-index.invariant
    ∙ paste-suc area at bytes index 0 (omega (arith, c.requires)) c.loop-index-test.true
    ∙ ap (λ (k : ℕ). paste area at bytes k) (sym (add-one index))
