use Rattle.ow_decide.proofs.KeptLaws.{decided_kept}
use Rattle.ow_decide.proofs.laws.decisions_commit_what_is_kept.Goals as goal

pub returns : goal.returns
returns c = decided_kept
