-- `volume::scanning::scan` meets its contract: at each turn what the code holds stands for the commands so far. Assumes nothing.
use mathlib.Core.Path.{◌≡◌, refl, sym, ap, ◌∙◌, subst}
use mathlib.Core.Bool.{Bool, true, false}
use mathlib.Core.List.{List, []}
use Prim.Native.Nat.{ℕ}
use native.Mathlib.Omega.{arith}
use borrow.Author.Tests.{lt-ltb}
use lib.ListN.{replicate}
use Rattle.commands.specs.declared.Kind.{Kind}
use Rattle.commands.specs.declared.Kind.TheVariants.{PostPost}
use Rattle.commands.specs.Kinds.{is}
use Rattle.std.proofs.Common.{rules}
use Rattle.std.proofs.lemmas.Result.{err_from_is_err_and}
use Rattle.std.specs.Result.{is_ok}
use Rattle.std.specs.declared.result.Result.TheVariants.{Err}
use Rattle.refusals.specs.Numbers.{number_of}
use Rattle.refusals.specs.Answer.{refused, answered}
use Rattle.commands.proofs.Readings.{given_reads}
use Rattle.list.specs.declared.Volume.{Volume}
use Rattle.volume.specs.Judged.{judged}
use Rattle.list.specs.Steps.{volume_of, fault_number}
use Rattle.volume.specs.Steps.{Going, scan_answer}
use Rattle.list.proofs.Arms.{is_kind}
use Rattle.list.proofs.Reasons.{some_number, no_fault}
use Rattle.volume.proofs.Going.{starting, turn_unread}
use Rattle.volume.proofs.ScanTurns.{placed_fault, small, next_is, next_small, fixed_fits, opcode_defined, with_room_lem, scan_stops, lawfully_numbered, turned}
use Rattle.volume.proofs.scanning.scan.Goals as goal

-- a command of another kind is not the last
not_last : (kind : Kind) → (kind ≡ PostPost → ⊥) → is kind PostPost ≡ false
not_last kind other = by (is kind PostPost) refl
  where
    by : (last : Bool) → is kind PostPost ≡ last → is kind PostPost ≡ false
    by true e = absurd (other (is_kind kind PostPost e))
    by false e = e

pub returns-then-file-gt-LONGEST_FILE : goal.returns-then-file-gt-LONGEST_FILE
unfolding judged
returns-then-file-gt-LONGEST_FILE c = record { result_value = simp (lt-ltb _ _ c.if-file-gt-LONGEST_FILE.true); scan_keeps = tt }

pub loop-reading-init : goal.loop-reading-init
loop-reading-init c =
    subst (λ (v : Volume). Going c.args.file.now c.args.page v c.args.fonts.now (replicate 256 0)) (sym (c.fresh-v.ensures c.args.page))
    (subst (λ (table : List ℕ). Going c.args.file.now c.args.page (volume_of c.args.page []) table (replicate 256 0)) (sym c.requires)
    (starting c.args.file.now c.args.page c.if-file-gt-LONGEST_FILE.false))

pub returns-in_err-reading-clause-result_value : goal.returns-in_err-reading-clause-result_value
returns-in_err-reading-clause-result_value c =
    let g = c.passed-v.ensures.onward c.args.page c.loop-reading.again c.loop-reading.invariant in
    let r = c.in_err-reading.field-0.0 in
    let (passed, is, same) = err_from_is_err_and c.from_residual.result c.from_residual.ensures.1 in
    ap scan_answer (is ∙ ap Err same) ∙ sym (turn_unread g (number_of r.reason) r.place (sym c.read.ensures ∙ ap answered c.in_err-reading.was))

pub slice_bounds-next-count : goal.slice_bounds-next-count
slice_bounds-next-count c =
    let r = c.in_ok-reading.reading in
    let d = given_reads c.args.file.now c.passed-v.result.at r (sym c.read.ensures ∙ ap answered c.in_ok-reading.was) in
    omega (arith, d.starts, d.nexts)

pub slice_bounds-next-end : goal.slice_bounds-next-end
slice_bounds-next-end c =
    let r = c.in_ok-reading.reading in
    let d = given_reads c.args.file.now c.passed-v.result.at r (sym c.read.ensures ∙ ap answered c.in_ok-reading.was) in
    omega (arith, d.inside)

pub invariant_of-next : goal.invariant_of-next
invariant_of-next c =
    let g = c.passed-v.ensures.onward c.args.page c.loop-reading.again c.loop-reading.invariant in
    let r = c.in_ok-reading.reading in
    let d = given_reads c.args.file.now c.passed-v.result.at r (sym c.read.ensures ∙ ap answered c.in_ok-reading.was) in
    record { right = (c.from.ensures, fixed_fits g r d) }

pub fault_of-requires : goal.fault_of-requires
fault_of-requires c =
    let g = c.passed-v.ensures.onward c.args.page c.loop-reading.again c.loop-reading.invariant in
    let r = c.in_ok-reading.reading in
    let d = given_reads c.args.file.now c.passed-v.result.at r (sym c.read.ensures ∙ ap answered c.in_ok-reading.was) in
    (opcode_defined g r d, omega (arith, (small g).post_is, next_small g r d))

pub returns-in_err-map_err-clause-result_value : goal.returns-in_err-map_err-clause-result_value
returns-in_err-map_err-clause-result_value c =
    let g = c.passed-v.ensures.onward c.args.page c.loop-reading.again c.loop-reading.invariant in
    let r = c.in_ok-reading.reading in
    let d = given_reads c.args.file.now c.passed-v.result.at r (sym c.read.ensures ∙ ap answered c.in_ok-reading.was) in
    let told = placed_fault c.fault_of.result c.map_err.result _ c.map_err.ensures.cases c.in_err-map_err.field-0.0 c.in_err-map_err.was in
    let placed : c.in_err-map_err.field-0.0 ≡ record { reason = told.0; place = c.passed-v.result.at } = search rules in
    let (passed, is, same) = err_from_is_err_and c.from_residual-in_err-map_err.result c.from_residual-in_err-map_err.ensures.1 in
    ap scan_answer (is ∙ ap Err (same ∙ placed))
    ∙ ap (λ (n : ℕ). refused n c.passed-v.result.at) (ap fault_number (sym told.1))
    ∙ scan_stops g r d c.from.result c.from.ensures (fault_number c.fault_of.result) c.fault_of.ensures (λ e. absurd (omega (arith, some_number told.0, sym (ap fault_number told.1) ∙ e)))

pub note-requires : goal.note-requires
note-requires c =
    let g = c.passed-v.ensures.onward c.args.page c.loop-reading.again c.loop-reading.invariant in
    let r = c.in_ok-reading.reading in
    let d = given_reads c.args.file.now c.passed-v.result.at r (sym c.read.ensures ∙ ap answered c.in_ok-reading.was) in
    (omega (arith, next_small g r d), lawfully_numbered g r d c.from.result c.from.ensures (fault_number c.fault_of.result) c.fault_of.ensures (no_fault c.fault_of.result (sym c.map_err.ensures.variant ∙ ap is_ok c.in_ok-map_err.was)))

pub after-v-requires : goal.after-v-requires
after-v-requires c =
    let g = c.passed-v.ensures.onward c.args.page c.loop-reading.again c.loop-reading.invariant in
    let r = c.in_ok-reading.reading in
    let d = given_reads c.args.file.now c.passed-v.result.at r (sym c.read.ensures ∙ ap answered c.in_ok-reading.was) in
    let s = small g in
    record { params_bound = (next_small g r d, with_room_lem g r d c.from.result c.from.ensures); depth_le_at = (s.depth_is, s.pages_are, s.fonts_are, s.again_are) }

pub ended-requires : goal.ended-requires
ended-requires c =
    let r = c.in_ok-reading.reading in
    let d = given_reads c.args.file.now c.passed-v.result.at r (sym c.read.ensures ∙ ap answered c.in_ok-reading.was) in
    d.inside

pub returns-then-eq : goal.returns-then-eq
returns-then-eq c =
    let last : c.from.result ≡ PostPost = search rules in
    let g = c.passed-v.ensures.onward c.args.page c.loop-reading.again c.loop-reading.invariant in
    let r = c.in_ok-reading.reading in
    let d = given_reads c.args.file.now c.passed-v.result.at r (sym c.read.ensures ∙ ap answered c.in_ok-reading.was) in
    let t =
    turned g r d c.from.result c.from.ensures (fault_number c.fault_of.result) c.fault_of.ensures (no_fault c.fault_of.result (sym c.map_err.ensures.variant ∙ ap is_ok c.in_ok-map_err.was))
    c.after-v.result c.after-v.ensures c.note.new.fonts c.note.new.again c.note.ensures.fonts_after c.note.ensures.again_after in
    let l = ap (λ (k : Kind). is k PostPost) last in
    record { result_value = c.ended.ensures.result_value ∙ t.judgement l; scan_keeps = t.keeping l c.ended.result c.ended.ensures.same }

pub loop-reading-smaller : goal.loop-reading-smaller
loop-reading-smaller c =
    let g = c.passed-v.ensures.onward c.args.page c.loop-reading.again c.loop-reading.invariant in
    let r = c.in_ok-reading.reading in
    let d = given_reads c.args.file.now c.passed-v.result.at r (sym c.read.ensures ∙ ap answered c.in_ok-reading.was) in
    let t =
    turned g r d c.from.result c.from.ensures (fault_number c.fault_of.result) c.fault_of.ensures (no_fault c.fault_of.result (sym c.map_err.ensures.variant ∙ ap is_ok c.in_ok-map_err.was))
    c.after-v.result c.after-v.ensures c.note.new.fonts c.note.new.again c.note.ensures.fonts_after c.note.ensures.again_after in
    omega (arith, t.place_held, next_is g r d, d.inside, c.passed-v.ensures.at_le_at)

pub loop-reading-preserved : goal.loop-reading-preserved
loop-reading-preserved c =
    let other : c.from.result ≡ PostPost → ⊥ = search rules in
    let g = c.passed-v.ensures.onward c.args.page c.loop-reading.again c.loop-reading.invariant in
    let r = c.in_ok-reading.reading in
    let d = given_reads c.args.file.now c.passed-v.result.at r (sym c.read.ensures ∙ ap answered c.in_ok-reading.was) in
    let t =
    turned g r d c.from.result c.from.ensures (fault_number c.fault_of.result) c.fault_of.ensures (no_fault c.fault_of.result (sym c.map_err.ensures.variant ∙ ap is_ok c.in_ok-map_err.was))
    c.after-v.result c.after-v.ensures c.note.new.fonts c.note.new.again c.note.ensures.fonts_after c.note.ensures.again_after in
    t.onward (not_last c.from.result other)
