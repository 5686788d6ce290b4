use Rattle.std.proofs.Common.{sym}
use Rattle.ow_floor.proofs.Wanting.{on_err, prewarm_work, removal_work}
use Rattle.ow_floor.proofs.orders.order_ahead.Goals as goal

pub returns-in-Remove-clause-wanted : goal.returns-in-Remove-clause-wanted
returns-in-Remove-clause-wanted c =
    on_err c.order_removal.result _ (removal_work c.args.lists.now.now c.in-Remove.removal (rw c.requires.none (sym c.in-Remove.ensures.value)))

pub returns-in-Prewarm-clause-wanted : goal.returns-in-Prewarm-clause-wanted
returns-in-Prewarm-clause-wanted c =
    on_err c.order_prewarm.result _ (prewarm_work c.args.lists.now.now c.in-Prewarm.slot c.in-Prewarm.kind c.in-Prewarm.memory (rw c.requires.none (sym c.in-Prewarm.ensures.value)))
