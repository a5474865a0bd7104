-- `converting::converting::put_record` meets its contract. Assumes nothing.
use Prim.Native.Nat.{ℕ, ◌+◌, ◌-◌}
use mathlib.Core.Path.{◌≡◌, refl, ap, ◌∙◌}
use native.Mathlib.Omega.{arith}
use lib.Seq.{sets}
use lib.ListN.{length, take, drop, replicate, length-replicate}
use Rattle.converting.proofs.Written.{part_length, three_pasted, record_parts}
use Rattle.converting.proofs.converting.put_record.Goals as goal

pub returns : goal.returns
returns g c =
    let table = c.args.table.now in
    let at = c.args.at in
    let behind = at + 8 + g.row.FROM in
    let x-long : length (take (at + 8 - at) (drop at table)) ≡ 8 = part_length table at 8 (omega arith) in
    let y-long : length (replicate {A = ℕ} g.row.TO 0) ≡ g.row.TO = length-replicate {A = ℕ} g.row.TO 0 in
    let z-long : length (take (behind + 8 - behind) (drop behind table)) ≡ 8 = part_length table behind 8 (omega arith) in
    three_pasted c.args.out.now c.args.written (c.args.written + 8) (c.args.written + 8 + g.row.TO)
    (take (at + 8 - at) (drop at table)) (replicate g.row.TO 0) (take (behind + 8 - behind) (drop behind table))
    (omega arith) (omega arith) (omega (arith, c.requires.1)) c.paste.new.out c.paste-2.new.out c.paste-3.new.out
    c.paste.ensures c.paste-2.ensures c.paste-3.ensures
    ∙ ap (sets c.args.out.now c.args.written) (record_parts g.row.FROM g.row.TO table at behind refl)
