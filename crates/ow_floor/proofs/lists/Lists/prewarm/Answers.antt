use Rattle.ow_floor.proofs.Going.{gone_added}
use Rattle.ow_floor.proofs.lists.Lists.prewarm.Goals as goal

pub invariant_of-self-2 : goal.invariant_of-self-2
invariant_of-self-2 c = (c.self.invariant.0, rw (c.push.ensures.now, c.in_ok-make_room.ensures.now) (gone_added c.self.inside.runs_gone c.self.inside.runs.now _ c.self.invariant.1), c.self.invariant.2)
