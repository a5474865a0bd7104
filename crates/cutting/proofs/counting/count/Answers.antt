-- `cutting::counting::count` meets its contract. Assumes nothing.
use Rattle.std.proofs.Common.{◌≡◌, sym, ap, ◌∙◌, subst, false, arith, length, ℕ, ◌+◌, ◌-◌, ◌≤◌, List}
use Rattle.commands.specs.declared.Kind.{Kind}
use Rattle.commands.specs.declared.Kind.TheVariants.{PostPost}
use Rattle.commands.specs.Kinds.{is}
use Rattle.commands.specs.Commands.{Command, kind_of_command}
use Rattle.refusals.specs.Answer.{answered}
use Rattle.commands.proofs.Readings.{command_at}
use Rattle.list.specs.Past.{pages}
use Rattle.volume.specs.History.{history}
use Rattle.cutting.specs.declared.Spot.{Spot}
use Rattle.cutting.specs.declared.Run.{Run}
use Rattle.cutting.specs.declared.Step.{Step}
use Rattle.cutting.specs.declared.Counted.{Counted}
use Rattle.cutting.specs.Steps.{spot_after, fate_of, run_at, RunTo, run_counted, counted_after, CountsAll}
use Rattle.cutting.proofs.Standing.{spot_small}
use Rattle.cutting.proofs.Walks.{inside}
use Rattle.cutting.proofs.Stepped.{Stepped, stepped, never_out}
use Rattle.cutting.proofs.CountLaws.{Counting, counting_first, counting_run, counted_deep, counting_on, counting_last, counting_same, counted_is}
use Rattle.cutting.proofs.Others.{same_kind, other_kind}
use Rattle.cutting.proofs.IdleRuns.{run_ahead}
use Rattle.cutting.proofs.counting.count.Goals as goal

-- behind a run, with what is counted of it
held : (file list : List ℕ) {at : ℕ} {p : Spot} {m : Counted} → Counting file list at p m → (end : Run) → RunTo file p.on (run_at at m.depth m.greatest) end
    → (n : Counted) → n ≡ run_counted p.here at end m → Counting file list end.at p n
held file list {p = p} k end run n e = subst (Counting file list end.at p) (sym e) (counting_run file list k end run)

-- the command there, and what is counted of it
module _ (file list : List ℕ) {there : ℕ} {p : Spot} {m n : Counted} {s : Step} (k : Counting file list there p m) (t : Stepped file list there p s)
    (n_is : n ≡ counted_after s.fate s.kind (s.next - s.at) m) where
  abbrev command : Command
  command = command_at file t.reading

  abbrev is_kind : Kind
  is_kind = kind_of_command command

  ends_there : s.next ≡ there + (1 + length command.params)
  ends_there = omega (arith, t.next_is, t.reads.starts, t.reads.nexts)

  counted : n ≡ counted_after (fate_of is_kind (spot_after list is_kind p).here p) is_kind (1 + length command.params) m
  counted =
      counted_is list p s.after m n s.kind is_kind s.fate (s.next - s.at) (1 + length command.params) t.kind_is t.spot_is t.fate_is
      (omega (arith, ends_there, t.at_is)) n_is

  at_last : s.kind ≡ PostPost → CountsAll file list n
  at_last last =
      subst (CountsAll file list) (sym counted)
      (counting_last file list k command _ t.reads.ahead (ap (λ (k : Kind). is k PostPost) (sym t.kind_is ∙ last)))

  onward : is s.kind PostPost ≡ false → Counting file list s.next s.after n
  onward not_last =
      counting_same file list ends_there (t.spot_is ∙ ap (λ (k : Kind). spot_after list k p) t.kind_is) counted
      (counting_on file list k command _ t.reads.ahead (ap (λ (k : Kind). is k PostPost) (sym t.kind_is) ∙ not_last))

pub loop-step-init : goal.loop-step-init
loop-step-init c =
    subst (λ (q : Spot). Counting c.args.file.now c.args.list.now 0 q (record { opened = 0; kept = 0; depth = 0; greatest = 0 })) (sym c.start-p.ensures)
    (counting_first c.args.file.now c.args.list.now c.requires.0 (pages (history c.args.file.now)) c.requires.1)

pub run_from-run-requires : goal.run_from-run-requires
run_from-run-requires c = (c.requires.0.0, c.loop-step.invariant.counts.shallow, counted_deep c.args.file.now c.args.list.now c.loop-step.invariant)

pub run_counted-m-requires : goal.run_counted-m-requires
run_counted-m-requires c =
    let ahead : c.loop-step.at ≤ c.run_from-run.result.at = run_ahead c.args.file.now c.loop-step.p.on _ c.run_from-run.result c.run_from-run.ensures in
    let ran = counting_run c.args.file.now c.args.list.now c.loop-step.invariant c.run_from-run.result c.run_from-run.ensures in
    (ahead, omega (arith, ahead, c.loop-step.invariant.counts.short, inside ran.walk, c.requires.0.0))

pub step_at-requires : goal.step_at-requires
step_at-requires c =
    let h = held c.args.file.now c.args.list.now c.loop-step.invariant c.run_from-run.result c.run_from-run.ensures c.run_counted-m.result c.run_counted-m.ensures in
    let small = spot_small h.stands in
    (omega (arith, small.0, h.walk.at_is, inside h.walk, c.requires.0.0), omega (arith, small.1, h.walk.at_is, inside h.walk, c.requires.0.0))

pub returns-in_default : goal.returns-in_default
returns-in_default c =
    let h = held c.args.file.now c.args.list.now c.loop-step.invariant c.run_from-run.result c.run_from-run.ensures c.run_counted-m.result c.run_counted-m.ensures in
    absurd (never_out c.args.file.now c.args.list.now c.run_from-run.result.at c.loop-step.p h.walk _ _ (sym c.step_at.ensures ∙ ap answered c.in_default.is))

pub counted_after-m-requires : goal.counted_after-m-requires
counted_after-m-requires c =
    let h = held c.args.file.now c.args.list.now c.loop-step.invariant c.run_from-run.result c.run_from-run.ensures c.run_counted-m.result c.run_counted-m.ensures in
    let t = stepped c.args.file.now c.args.list.now c.run_from-run.result.at c.loop-step.p c.in-Ok.step (sym c.step_at.ensures ∙ ap answered c.in-Ok.is) in
    let n = h.counts in (
      omega (arith, n.short, t.at_is, t.next_is, t.reads.starts, t.reads.nexts, t.reads.inside, c.requires.0.0),
      omega (arith, n.short, t.at_is, t.next_is, t.reads.starts, t.reads.nexts, t.reads.inside, c.requires.0.0),
      omega (arith, n.shallow, t.at_is, t.next_is, t.reads.starts, t.reads.nexts, t.reads.inside, c.requires.0.0),
    )

pub returns-then-eq : goal.returns-then-eq
returns-then-eq c =
    let h = held c.args.file.now c.args.list.now c.loop-step.invariant c.run_from-run.result c.run_from-run.ensures c.run_counted-m.result c.run_counted-m.ensures in
    let t = stepped c.args.file.now c.args.list.now c.run_from-run.result.at c.loop-step.p c.in-Ok.step (sym c.step_at.ensures ∙ ap answered c.in-Ok.is) in
    at_last c.args.file.now c.args.list.now h t c.counted_after-m.ensures (same_kind c.in-Ok.step.kind PostPost c.if-eq.ensures)

pub loop-step-smaller : goal.loop-step-smaller
loop-step-smaller c =
    let t = stepped c.args.file.now c.args.list.now c.run_from-run.result.at c.loop-step.p c.in-Ok.step (sym c.step_at.ensures ∙ ap answered c.in-Ok.is) in
    omega (arith, run_ahead c.args.file.now c.loop-step.p.on _ c.run_from-run.result c.run_from-run.ensures, t.next_is, t.reads.starts, t.reads.nexts, t.reads.inside)

pub loop-step-preserved : goal.loop-step-preserved
loop-step-preserved c =
    let h = held c.args.file.now c.args.list.now c.loop-step.invariant c.run_from-run.result c.run_from-run.ensures c.run_counted-m.result c.run_counted-m.ensures in
    let t = stepped c.args.file.now c.args.list.now c.run_from-run.result.at c.loop-step.p c.in-Ok.step (sym c.step_at.ensures ∙ ap answered c.in-Ok.is) in
    onward c.args.file.now c.args.list.now h t c.counted_after-m.ensures (other_kind c.in-Ok.step.kind PostPost c.if-eq.ensures)
