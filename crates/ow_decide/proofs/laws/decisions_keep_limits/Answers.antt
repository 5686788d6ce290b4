use Rattle.ow_decide.proofs.LimitLaws.{decided_within}
use Rattle.ow_decide.proofs.laws.decisions_keep_limits.Goals as goal

pub returns : goal.returns
returns c = decided_within
