use Rattle.ow_trees.proofs.Coming.{steps_right}
use Rattle.ow_trees.proofs.laws.steps_are_right.Goals as goal

pub returns : goal.returns
returns c = steps_right
