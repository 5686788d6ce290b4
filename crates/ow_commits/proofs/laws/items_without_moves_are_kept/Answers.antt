use Rattle.ow_commits.proofs.Quiet.{quiet_stands}
use Rattle.ow_commits.proofs.laws.items_without_moves_are_kept.Goals as goal

pub returns : goal.returns
returns c = quiet_stands
