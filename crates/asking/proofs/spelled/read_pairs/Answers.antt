-- `asking::spelled::read_pairs` meets its contract.
use Rattle.std.proofs.Common.{◌≡◌, ◌/◌, length, sym, ◌∙◌, inl, inr, arith}
use Rattle.asking.proofs.HexadecimalLaws.{odd, too_long, ends, wrong, right}
use Rattle.asking.proofs.spelled.read_pairs.Goals as goal

pub returns-then-word-eq1-clause-result_after : goal.returns-then-word-eq1-clause-result_after
returns-then-word-eq1-clause-result_after c = elim c.then-word-eq1.either [ inl e ↦ sym (odd _ _ e) | inr e ↦ sym (too_long _ _ e.1) ]

pub returns-in_err-buffer-clause-result_after : goal.returns-in_err-buffer-clause-result_after
returns-in_err-buffer-clause-result_after c =
    rw
    c.from_residual.ensures
    (sym (wrong _ _ _ _ c.loop-done.invariant (omega arith) (omega arith) (sym c.byte_of_pair.ensures ∙ c.in_err-buffer.was)))

pub loop-done-preserved : goal.loop-done-preserved
loop-done-preserved c = right _ _ _ _ c.loop-done.invariant (omega arith) (omega arith) _ (sym c.byte_of_pair.ensures ∙ c.in_ok-buffer.was) (omega arith)

pub returns-clause-result_after : goal.returns-clause-result_after
returns-clause-result_after c =
    let done : c.loop-done.done ≡ length c.args.word.now / 2 = omega arith in
    rw (sym done) (sym (ends _ _ _ _ c.loop-done.invariant (omega arith)))
