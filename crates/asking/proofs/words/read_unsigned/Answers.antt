-- `asking::words::read_unsigned` meets its contract.
use Rattle.std.proofs.Common.{sym, ◌∙◌}
use Rattle.asking.proofs.DecimalLaws.{stops, goes, ends}
use Rattle.asking.proofs.words.read_unsigned.Goals as goal

pub returns-in_err-value-clause-value : goal.returns-in_err-value-clause-value
returns-in_err-value-clause-value c =
    c.from_residual.ensures
    ∙ sym (c.loop-byte.invariant.1 ∙ stops _ _ _ _ c.loop-byte-test.true _ c.with_digit.ensures.value c.in_err-value.was)

pub loop-byte-preserved : goal.loop-byte-preserved
loop-byte-preserved c =
    (c.in_ok-value.ensures.at_most, c.loop-byte.invariant.1 ∙ goes _ _ _ _ c.loop-byte-test.true _ c.with_digit.ensures.value _ c.in_ok-value.was)

pub returns-clause-value : goal.returns-clause-value
returns-clause-value c = sym (c.loop-byte.invariant.1 ∙ ends _ _ _ _ c.loop-byte-test.false)
