use Rattle.ow_trees.proofs.Coming.{steps_owed}
use Rattle.ow_trees.proofs.laws.steps_are_owed.Goals as goal

pub returns : goal.returns
returns c = steps_owed
