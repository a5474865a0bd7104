-- `cutting::walking::run_from` meets its contract. Assumes nothing.
use Rattle.std.proofs.Common.{◌≡◌, sym, ◌∙◌, subst, Bool, false, not, arith, List, ℕ}
use borrow.Author.Tests.{not-false}
use Rattle.volume.proofs.Going.{forward}
use Rattle.cutting.specs.declared.Run.{Run}
use Rattle.cutting.specs.Steps.{Runs, runs_none, RunTo}
use Rattle.cutting.proofs.IdleRuns.{runs_shallow, runs_reached, runs_plain, runs_short}
use Rattle.cutting.proofs.walking.run_from.Goals as goal

-- on a page a run is what the loop makes
on_page : {file : List ℕ} {from reached : Run} (on : Bool) → not on ≡ false → Runs file from reached → RunTo file on from reached
on_page {file = file} {from = from} {reached = reached} on e runs = subst (λ (b : Bool). RunTo file b from reached) (sym (not-false on e)) runs

pub loop-run-init : goal.loop-run-init
loop-run-init c = runs_none

pub returns-then-file-run : goal.returns-then-file-run
returns-then-file-run c =
    on_page c.args.p.on c.if-not-p.false (runs_plain c.loop-run.invariant (runs_reached c.requires.2 c.loop-run.invariant) c.pass_plain.ensures)

pub returns-then-not-is_short : goal.returns-then-not-is_short
returns-then-not-is_short c =
    on_page c.args.p.on c.if-not-p.false (runs_plain c.loop-run.invariant (runs_reached c.requires.2 c.loop-run.invariant) c.pass_plain.ensures)

pub next_depth-requires : goal.next_depth-requires
next_depth-requires c = λ pushes.
    omega (arith, runs_shallow c.requires.1 (runs_plain c.loop-run.invariant (runs_reached c.requires.2 c.loop-run.invariant) c.pass_plain.ensures), c.requires.0)

pub loop-run-smaller : goal.loop-run-smaller
loop-run-smaller c = omega (arith, forward c.pass_plain.ensures)

pub loop-run-preserved : goal.loop-run-preserved
loop-run-preserved c =
    let short = sym c.is_short.ensures ∙ c.if-not-is_short.false in
    runs_short (runs_plain c.loop-run.invariant (runs_reached c.requires.2 c.loop-run.invariant) c.pass_plain.ensures) (omega arith) short c.from.ensures c.next_depth.ensures c.max.ensures
