-- A record whose numbers are small is read back from their bits. Assumes nothing.
use mathlib.Core.Path.{◌≡◌}
use native.Mathlib.Omega.{arith}
use mir.Syntax.{w64}
use mir.Val.{to_z, of_z}
use Rattle.numbers.proofs.Signed.{read}
use Rattle.placements.specs.declared.Record.{Record}
use Rattle.placements.specs.Steps.{InWords}

-- the record of what the bits of its signed numbers say
abbrev pub of_bits : Record → Record
of_bits r =
    record {
      kind = r.kind;
      font = r.font;
      page = r.page;
      hh = to_z w64 (of_z w64 r.hh);
      vv = to_z w64 (of_z w64 r.vv);
      content = to_z w64 (of_z w64 r.content);
      extent = to_z w64 (of_z w64 r.extent);
    }

pub read_record : (r : Record) → InWords r → of_bits r ≡ r
read_record r w =
    rw (read r.hh (omega (arith, w.hh_in)), read r.vv (omega (arith, w.vv_in)), read r.content (omega (arith, w.content_in)), read r.extent (omega (arith, w.extent_in)))
