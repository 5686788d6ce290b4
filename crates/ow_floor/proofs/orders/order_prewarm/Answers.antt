use Rattle.ow_floor.proofs.Ordering.{prewarm_ordered}
use Rattle.ow_floor.proofs.orders.order_prewarm.Goals as goal

pub returns-clause-made : goal.returns-clause-made
returns-clause-made c =
    prewarm_ordered c.args.lists.now.now c.prewarm.new.self.now c.args.at c.in-Some.run' c.args.slot c.generation_after.result c.args.kind c.args.memory c.requires.placed c.in-Some.ensures
    (rw (← c.slots.ensures) c.generation_after.ensures) c.in_ok-prewarm.ensures.now
