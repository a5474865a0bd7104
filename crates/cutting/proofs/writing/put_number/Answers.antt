-- `cutting::writing::put_number` meets its contract. Assumes nothing.
use Rattle.cutting.proofs.Pasted.{pasted_sets, last_bytes}
use Rattle.numbers.proofs.Bytes.{length_bytes}
use lib.Seq.{sets}
use Rattle.std.proofs.lemmas.List.{take_all}
use lib.ListN.{length, take, drop}
use mathlib.Core.Path.{◌≡◌, ap, ◌∙◌}
use mathlib.Core.List.{List}
use Prim.Native.Nat.{ℕ, ◌-◌}
use Rattle.numbers.specs.Bytes.{bytes_of}
use native.Mathlib.Omega.{arith}
use Rattle.cutting.proofs.writing.put_number.Goals as goal

pub returns : goal.returns
returns c =
    let a = c.args in
    let bytes : take (8 - (8 - a.count)) (drop (8 - a.count) c.to_be_bytes.result) ≡ bytes_of a.count a.n =
    ap (λ (l : List ℕ). take (8 - (8 - a.count)) (drop (8 - a.count) l)) c.to_be_bytes.ensures
    ∙ ap (take (8 - (8 - a.count))) (last_bytes a.count a.n c.requires.1)
    ∙ take_all (8 - (8 - a.count)) (bytes_of a.count a.n) (omega (arith, c.requires.1, length_bytes a.count a.n)) in
    pasted_sets a.out.now a.at _ _ (omega (arith, c.requires.0, ap length bytes ∙ length_bytes a.count a.n)) c.paste.ensures
    ∙ ap (sets a.out.now a.at) bytes
