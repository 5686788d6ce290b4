use Rattle.ow_traits.proofs.Taking.{TakesFront-then, TakesFront-longer}
use Rattle.ow_command_line.proofs.Results.{on_err}
use Rattle.ow_command_line.proofs.status.report_refusal.Goals as goal

pub returns-in-Err-clause-err : goal.returns-in-Err-clause-err
returns-in-Err-clause-err g c = TakesFront-longer _ _ _ _ c.in-Err.ensures.err

pub returns-in-Err-write_all-clause-err : goal.returns-in-Err-write_all-clause-err
returns-in-Err-write_all-clause-err g c =
    TakesFront-then _ _ _ _ _ c.in_default.ensures.ok (TakesFront-longer _ _ _ _ (rw (c.as_bytes-number.ensures.value, c.format.ensures.text) at c.in-Err-write_all.ensures.err))

pub returns-clause-err : goal.returns-clause-err
returns-clause-err g c =
    on_err c.write_pieces.result c.write_pieces.ensures.err
    (λ front. TakesFront-then _ _ _ _ _ c.in_default.ensures.ok
    (TakesFront-then _ _ _ _ _ (rw (c.as_bytes-number.ensures.value, c.format.ensures.text) at c.in_default-write_all.ensures.ok) (rw c.as_bytes.ensures.value at front)))
