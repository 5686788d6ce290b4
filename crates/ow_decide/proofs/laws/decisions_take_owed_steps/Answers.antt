use Rattle.ow_decide.proofs.OwedLaws.{decided_owed}
use Rattle.ow_decide.proofs.laws.decisions_take_owed_steps.Goals as goal

pub returns : goal.returns
returns c = decided_owed
