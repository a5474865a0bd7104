-- `cutting::writing::opened` meets its contract. Assumes nothing.
use Rattle.cutting.proofs.Pasted.{pasted_sets, between_length}
use Rattle.cutting.specs.Steps.{between}
use mathlib.Core.Path.{refl}
use native.Mathlib.Omega.{arith}
use Rattle.cutting.proofs.writing.opened.Goals as goal

pub returns : goal.returns
returns c =
    let a = c.args in
    let room = c.requires in
    let long = between_length a.at a.next a.file.now room.0 room.1 in
    record { value = refl; out_after = pasted_sets a.out.now a.m.opened (between a.at a.next a.file.now) _ (omega (arith, room.2, long)) c.paste_part.ensures }
