use Rattle.ow_floor.specs.View.{waits}
use Rattle.ow_floor.specs.Store.{IsSpot}
use Rattle.ow_floor.proofs.Wanting.{head_work, on_err}
use Rattle.ow_floor.proofs.orders.next_order.Goals as goal

pub returns-in-Some-clause-wanted : goal.returns-in-Some-clause-wanted
returns-in-Some-clause-wanted c =
    let spot : IsSpot waits c.args.lists.now.now.spots c.args.lists.now.now.tasks c.in-Some.spot = c.in-Some.ensures in
    on_err c.order_head.result _ (head_work c.args.lists.now.now spot.item spot.found)
