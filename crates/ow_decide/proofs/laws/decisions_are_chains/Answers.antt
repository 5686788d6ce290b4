use Rattle.ow_decide.proofs.ChainLaws.{decided_steps}
use Rattle.ow_decide.proofs.laws.decisions_are_chains.Goals as goal

pub returns : goal.returns
returns c = decided_steps
