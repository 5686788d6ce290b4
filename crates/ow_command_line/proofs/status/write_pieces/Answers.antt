use Rattle.ow_traits.proofs.Taking.{TakesFront-then, TakesFront-longer}
use Rattle.ow_command_line.proofs.Results.{on_err}
use Rattle.ow_command_line.proofs.status.write_pieces.Goals as goal

pub returns-in-Err-clause-err : goal.returns-in-Err-clause-err
returns-in-Err-clause-err g c = TakesFront-longer _ _ _ _ c.in-Err.ensures.err

pub returns-in-Err-write_all-clause-err : goal.returns-in-Err-write_all-clause-err
returns-in-Err-write_all-clause-err g c = TakesFront-then _ _ _ _ _ c.in_default.ensures.ok (TakesFront-longer _ _ _ _ c.in-Err-write_all.ensures.err)

pub returns-clause-err : goal.returns-clause-err
returns-clause-err g c =
    on_err c.write_all-3.result c.write_all-3.ensures.err
    (λ front. TakesFront-then _ _ _ _ _ c.in_default.ensures.ok (TakesFront-then _ _ _ _ _ c.in_default-write_all.ensures.ok front))
