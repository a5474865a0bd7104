-- `packed::judging::scan` meets its contract. Assumes nothing.
use mathlib.Core.Path.{◌≡◌, refl, sym, ap, ◌∙◌}
use mathlib.Core.Bool.{Bool, true, false, not, ◌||◌}
use mathlib.Core.List.{List}
use Prim.Native.Nat.{ℕ}
use native.Mathlib.Omega.{arith}
use Rattle.std.proofs.lemmas.Result.{err_from_is_err_and}
use Rattle.refusals.specs.Answer.{Answer, answered, refuse_if, given, and_then}
use Rattle.commands.specs.Commands.{Command}
use Rattle.packed.specs.Commands.{is_postamble}
use Rattle.packed.specs.Judged.{note_of}
use Rattle.packed.proofs.Going.{going_start, going_refused, going_on, going_end}
use Rattle.packed.proofs.judging.scan.Goals as goal

-- whether the postamble byte has passed after one more command
passed : (b e : Bool) → e ≡ true → (b || e) ≡ e
passed true e h = sym h
passed false e h = refl

not_passed : (b e : Bool) → e ≡ false → (b || e) ≡ b
not_passed true e h = refl
not_passed false e h = h

pub loop-at-init : goal.loop-at-init
loop-at-init c = going_start c.args.pk.now

pub returns-in_err-found : goal.returns-in_err-found
returns-in_err-found c =
    let l = c.loop-at in
    let p = err_from_is_err_and c.from_residual.result c.from_residual.ensures.1 in
    let found = sym c.command_found.ensures ∙ ap answered c.in_err-found.was in
    rw (p.1, p.2) (sym (ap (λ (a : Answer (List Command)). and_then a (λ past. given (note_of past))) (going_refused c.args.pk.now l.at l.ended l.note l.invariant (omega arith) _ _ found)))

pub loop-at-preserved-then-ended : goal.loop-at-preserved-then-ended
loop-at-preserved-then-ended c =
    let l = c.loop-at in
    let found = sym c.command_found.ensures ∙ ap answered c.in_ok-found.was in
    going_on c.args.pk.now l.at l.ended l.note l.invariant (omega arith) c.in_ok-found.found found _ (passed _ l.ended c.if-ended.true) _ c.put.ensures

pub loop-at-preserved : goal.loop-at-preserved
loop-at-preserved c =
    let l = c.loop-at in
    let found = sym c.command_found.ensures ∙ ap answered c.in_ok-found.was in
    going_on c.args.pk.now l.at l.ended l.note l.invariant (omega arith) c.in_ok-found.found found _ (ap (λ (n : ℕ). is_postamble n || l.ended) (sym c.from.ensures) ∙ not_passed _ l.ended c.if-ended.false) _ c.put.ensures

pub returns-then-ended-2 : goal.returns-then-ended-2
returns-then-ended-2 c =
    let l = c.loop-at in
    let g = l.invariant in
    sym
    (ap
    (λ (a : Answer (List Command)). and_then a (λ past. given (note_of past)))
    (going_end c.args.pk.now l.at l.ended l.note g (omega arith) ∙ ap (λ (e : Bool). refuse_if (not e) 18 l.at (given g.past)) c.if-ended-2.true)
    ∙ ap given g.note_is)

pub returns-else-ended-2 : goal.returns-else-ended-2
returns-else-ended-2 c =
    let l = c.loop-at in
    let g = l.invariant in
    sym
    (ap
    (λ (a : Answer (List Command)). and_then a (λ past. given (note_of past)))
    (going_end c.args.pk.now l.at l.ended l.note g (omega arith) ∙ ap (λ (e : Bool). refuse_if (not e) 18 l.at (given g.past)) c.if-ended-2.false))
