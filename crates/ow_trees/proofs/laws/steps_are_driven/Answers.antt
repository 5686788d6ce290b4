use Rattle.ow_trees.proofs.Coming.{steps_driven}
use Rattle.ow_trees.proofs.laws.steps_are_driven.Goals as goal

pub returns : goal.returns
returns c = steps_driven
