-- `packed::tables::width_table` meets its contract. Assumes nothing.
use Prim.Native.Nat.{◌*◌, ◌≤◌, ◌<◌}
use mathlib.Core.Path.{sym, ap, ◌∙◌}
use native.Mathlib.Omega.{arith}
use lib.ListN.{length}
use Rattle.refusals.specs.Answer.{answered, given}
use Rattle.widths.specs.Table.{width_record_size}
use Rattle.packed.specs.Table.{font_table, records_made, table_area}
use Rattle.packed.proofs.MadeLaws.{made_short, made_given, told_noted, records_are}
use Rattle.packed.proofs.tables.width_table.Goals as goal

pub returns-then-out-note : goal.returns-then-out-note
returns-then-out-note c =
    let a = c.args in
    let area = a.out.now in
    let pk = a.pk.now in
    let n = c.in_ok-note.note in
    let right = sym c.lawful_size.ensures ∙ c.if-not-lawful_size.false in
    let told = told_noted pk n (sym (ap answered c.in_ok-note.was) ∙ c.scan.ensures) in
    let short : length area < width_record_size * length (font_table a.scale told.past) = omega (arith, records_are pk a.scale told.past told.judged, told.packets_are) in
    let made = made_short pk a.scale (length area) right told.past told.judged short in
    record { result_value = sym (ap records_made made); out_after = sym (ap (table_area area) made) }

pub write_records-requires : goal.write_records-requires
write_records-requires c =
    let a = c.args in
    let area = a.out.now in
    let pk = a.pk.now in
    let n = c.in_ok-note.note in
    let told = told_noted pk n (sym (ap answered c.in_ok-note.was) ∙ c.scan.ensures) in
    record {
      past = told.past;
      judged = told.judged;
      places_are = told.places_are;
      enough = omega (arith, records_are pk a.scale told.past told.judged, told.packets_are);
    }

pub returns : goal.returns
returns c =
    let a = c.args in
    let area = a.out.now in
    let pk = a.pk.now in
    let n = c.in_ok-note.note in
    let right = sym c.lawful_size.ensures ∙ c.if-not-lawful_size.false in
    let told = told_noted pk n (sym (ap answered c.in_ok-note.was) ∙ c.scan.ensures) in
    let count = records_are pk a.scale told.past told.judged in
    let enough : width_record_size * length (font_table a.scale told.past) ≤ length area = omega (arith, count, told.packets_are) in
    let made = made_given pk a.scale (length area) right told.past told.judged enough in record { result_value = ap given (told.packets_are ∙ sym count) ∙ sym (ap records_made made); out_after = c.write_records.ensures told.past told.judged ∙ sym (ap (table_area area) made) }
