use Rattle.ow_floor.proofs.Growing.{back_good}
use Rattle.ow_floor.proofs.floor.Floor.settle.Goals as goal

pub invariant_of-self-else-keep : goal.invariant_of-self-else-keep
invariant_of-self-else-keep c = rw c.take_back.ensures (back_good c.self.inside.lists.past c.self.inside.lists.now c.self.invariant.0 c.self.invariant.1, tt)
