use Rattle.ow_floor.proofs.Growing.{back_good}
use Rattle.ow_floor.proofs.floor.Floor.back.Goals as goal

pub invariant_of-self : goal.invariant_of-self
invariant_of-self c = rw c.back.ensures (back_good c.self.inside.lists.past c.self.inside.lists.now c.self.invariant.0 c.self.invariant.1, c.self.invariant.1)
