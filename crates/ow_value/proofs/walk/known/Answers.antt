use Rattle.ow_value.proofs.Objects.{IsValue-object}
use Rattle.ow_value.proofs.walk.known.Goals as goal

pub returns-in-Object : goal.returns-in-Object
returns-in-Object c = rw c.in-Object.is (IsValue-object _ c.pairs.ensures.object)
