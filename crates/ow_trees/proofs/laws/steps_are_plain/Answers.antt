use Rattle.ow_trees.proofs.Coming.{steps_plain}
use Rattle.ow_trees.proofs.laws.steps_are_plain.Goals as goal

pub returns : goal.returns
returns c = steps_plain
