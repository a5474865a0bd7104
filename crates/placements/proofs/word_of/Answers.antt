-- `placements::word_of` meets its contract. Assumes nothing.
use mathlib.Core.Path.{ap, ◌∙◌}
use Prim.Native.Nat.{◌^◌}
use native.Mathlib.Nat.{div-div-eq-div-mul}
use native.Mathlib.Omega.{arith}
use Rattle.numbers.specs.Signs.{to_twos}
use Rattle.numbers.specs.Bytes.{bytes_of}
use Rattle.numbers.proofs.Signed.{read}
use Rattle.placements.proofs.word_of.Goals as goal

pub returns : goal.returns
unfolding bytes_of
returns c =
    simp div-div-eq-div-mul c.to_be_bytes.ensures ∙ ap (bytes_of 4) (c.to_twos.ensures ∙ ap (to_twos (2 ^ 32)) (read c.args.n (omega arith)))
