-- `converting::converting::first_named` meets its contract. Assumes nothing.
use Prim.Native.Nat.{ℕ, ◌*◌}
use mathlib.Core.Bool.{Bool, not}
use mathlib.Core.List.{List}
use mathlib.Core.Path.{◌≡◌, sym, ap, ◌∙◌}
use native.Mathlib.Omega.{arith}
use lib.Dec.{eqb}
use Rattle.refusals.specs.Numbers.{named_record}
use Rattle.refusals.specs.Answer.{given, refused}
use Rattle.widths.specs.Table.{width_record_size, record_at, record_in}
use Rattle.converting.proofs.Unnamed.{named, unnamed_stops, unnamed_turns, unnamed_ends}
use Rattle.converting.proofs.converting.first_named.Goals as goal

-- the test at a record's place is that of the record
tested : (table : List ℕ) (index at : ℕ) {test : Bool} → at ≡ index * width_record_size → test ≡ not (eqb (record_at table at).name 0) → named table index ≡ test
unfolding record_in
tested table index at place e = sym (e ∙ ap (λ (n : ℕ). not (eqb (record_at table n).name 0)) place)

pub returns-then-is_named-clause-result_value : goal.returns-then-is_named-clause-result_value
returns-then-is_named-clause-result_value c =
    let w = c.args.widths in
    let l = c.loop-index in
    let place = c.place_of-at.ensures.place in
    ap (refused named_record) place
    ∙ sym (unnamed_stops w.bytes.now w.records l.index c.loop-index-test.true (tested w.bytes.now l.index c.place_of-at.result place c.is_named.ensures ∙ c.if-is_named.true))
    ∙ l.invariant

pub loop-index-preserved : goal.loop-index-preserved
loop-index-preserved c =
    let w = c.args.widths in
    let l = c.loop-index in
    sym (unnamed_turns w.bytes.now w.records l.index c.loop-index-test.true (tested w.bytes.now l.index c.place_of-at.result c.place_of-at.ensures.place c.is_named.ensures ∙ c.if-is_named.false))
    ∙ l.invariant

pub returns-clause-result_value : goal.returns-clause-result_value
returns-clause-result_value c =
    let w = c.args.widths in
    let l = c.loop-index in
    let all : w.records ≡ l.index = omega (arith, l.auto.index-end, c.loop-index-test.false) in
    ap given all ∙ sym (unnamed_ends w.bytes.now w.records l.index (omega arith)) ∙ l.invariant
