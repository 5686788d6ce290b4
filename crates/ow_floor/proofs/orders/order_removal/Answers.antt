use Rattle.ow_floor.proofs.Ordering.{removal_ordered}
use Rattle.ow_floor.proofs.Results.{sure}
use Rattle.ow_floor.proofs.orders.order_removal.Goals as goal

pub returns-clause-made : goal.returns-clause-made
returns-clause-made c =
    removal_ordered c.args.lists.now.now c.remove.new.self.now c.args.at c.args.removal c.in_ok-containers.containers c.requires.placed
    (rw (← c.slots.ensures, ← c.as_slice.ensures.value) c.in_ok-containers.ensures)
    (rw (← c.as_slice-2.ensures.value) (sure c.remove.result _ c.remove.ensures.now c.if-is_err.ensures.value))
