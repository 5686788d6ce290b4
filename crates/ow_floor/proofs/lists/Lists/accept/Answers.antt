use Rattle.ow_floor.proofs.Going.{gone_added}
use Rattle.ow_floor.proofs.lists.Lists.accept.Goals as goal

pub invariant_of-self-2 : goal.invariant_of-self-2
invariant_of-self-2 c = (rw (c.push.ensures.now, c.make_room.ensures.now) (gone_added c.self.inside.tasks_gone c.self.inside.tasks.now _ c.self.invariant.0), c.self.invariant.1, c.self.invariant.2)
