-- `cutting::writing::copied` meets its contract. Assumes nothing.
use Rattle.cutting.proofs.Pasted.{pasted_sets, between_length}
use Rattle.cutting.specs.Steps.{between}
use mathlib.Core.Path.{refl}
use native.Mathlib.Omega.{arith}
use Rattle.cutting.proofs.writing.copied.Goals as goal

pub returns : goal.returns
returns c =
    let a = c.args in
    let room = c.requires in
    let long = between_length a.m.from a.at a.file.now room.ahead room.inside in
    record { value = refl; out_after = pasted_sets a.out.now a.m.size (between a.m.from a.at a.file.now) _ (omega (arith, room.fits, long)) c.paste_part.ensures }
