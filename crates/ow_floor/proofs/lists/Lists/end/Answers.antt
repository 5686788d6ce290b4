use Rattle.ow_floor.proofs.Going.{gone_set_none}
use Rattle.ow_floor.proofs.lists.Lists.end.Goals as goal

pub further-self-inside-requires : goal.further-self-inside-requires
further-self-inside-requires c =
    rw (c.items.ensures, c.set.ensures.now, c.reserve_step.ensures.now) (gone_set_none c.self.inside.tasks_gone c.args.place c.self.inside.tasks.now c.self.invariant.0)
