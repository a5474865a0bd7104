-- `asking::spelled::read_bytes` meets its contract.
use Rattle.std.proofs.Common.{sym, ◌∙◌}
use Rattle.asking.proofs.HexadecimalLaws.{pairs}
use Rattle.asking.proofs.spelled.read_bytes.Goals as goal

pub returns-clause-result_after : goal.returns-clause-result_after
returns-clause-result_after c =
    c.read_pairs.ensures.result_after
    ∙ sym (pairs _ _ (sym c.if-is_empty.ensures) (rw (sym c.as_slice.ensures) (sym c.if-eq.ensures)))
