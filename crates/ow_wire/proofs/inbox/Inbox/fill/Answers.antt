use Rattle.std.proofs.Common.{[], arith, refl, rules}
use Rattle.ow_wire.proofs.Came.{gives_failed, gives_read, length_piece}
use Rattle.ow_wire.proofs.inbox.Inbox.fill.Goals as goal

pub returns-then-is_err-clause-filled : goal.returns-then-is_err-clause-filled
returns-then-is_err-clause-filled g c =
    (_, gives_read _ _ _ c.in-Ok.n c.in-Ok.ensures.told, tt, length_piece c.read.new.room c.in-Ok.n (search rules))

pub returns-in-Err-clause-filled : goal.returns-in-Err-clause-filled
returns-in-Err-clause-filled g c = ([], gives_failed _ _ _ _ c.in-Err.ensures.told, refl, omega arith)
