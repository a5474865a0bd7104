-- `placements::bytes_of` meets its contract: each part of the record is written for itself. Assumes nothing.
use mathlib.Core.Path.{◌≡◌, refl}
use Prim.Native.Nat.{◌/◌, ◌%◌}
use native.Mathlib.Omega.{arith}
use Rattle.numbers.specs.Bytes.{bytes_of}
use Rattle.numbers.proofs.Signed.{read}
use Rattle.placements.specs.Records.{record_bytes}
use Rattle.placements.proofs.bytes_of.Goals as goal

pub returns : goal.returns
unfolding bytes_of record_bytes
returns c =
    let r = c.args.placed in
    let w = c.requires in
    let high : r.page % 65536 / 256 % 256 ≡ r.page / 256 % 256 = omega arith in
    let low : r.page % 65536 % 256 ≡ r.page % 256 = omega arith in
    rw (c.to_be_bytes.ensures, c.word_of.ensures, c.word_of-2.ensures, c.word_of-3.ensures, c.word_of-4.ensures, high, low)
    (rw (read r.hh (omega (arith, w.hh_in)), read r.vv (omega (arith, w.vv_in)), read r.content (omega (arith, w.content_in)), read r.extent (omega (arith, w.extent_in))) refl)
