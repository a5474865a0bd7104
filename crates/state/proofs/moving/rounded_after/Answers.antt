-- `state::moving::rounded_after` meets its contract: what is kept is right where nothing moves, and where K is 0. Assumes nothing.
use mathlib.Core.Path.{◌≡◌, sym, ap, ◌∙◌}
use Prim.Native.Nat.{ℕ}
use native.Mathlib.Omega.{arith}
use lib.IntN.{pos, ◌+ℤ◌, +ℤ_idr}
use mir.Syntax.{w64}
use mir.Val.{to_z}
use Rattle.units.specs.Rounding.{rounded}
use Rattle.units.proofs.Rounding.{rounded_none}
use Rattle.state.proofs.Words.{as_word, word_is, centre_read}
use Rattle.state.proofs.moving.rounded_after.Goals as goal
use Rattle.state.proofs.moving.rounded_after.Goals.{then-n-eq0-via-then-n-eq0, then-n-eq0-via-else-n-eq0+then-k-eq0}

pub returns-then-n-eq0 : goal.returns-then-n-eq0
returns-then-n-eq0 c =
    let a = c.args in
    let from = a.from.position in
    elim c.then-n-eq0.branch [
      | then-n-eq0-via-then-n-eq0 w ↦
          let stays : from +ℤ as_word a.n ≡ from = ap (λ (word : ℕ). from +ℤ to_z w64 word) w.if-n-eq0.true ∙ +ℤ_idr from in
          centre_read c.requires.0 from a.n a.from.rounded c.requires.3 c.requires.4 (c.requires.1 ∙ ap (rounded a.k) (sym stays))
      | then-n-eq0-via-else-n-eq0+then-k-eq0 w ↦
          let none = w.if-k-eq0.true in
          let zero : a.from.rounded ≡ pos 0 = c.requires.1 ∙ rounded_none a.k none from in
          ap as_word zero ∙ word_is (pos 0) (omega arith) ∙ sym (rounded_none a.k none (from +ℤ a.n))
    ]
