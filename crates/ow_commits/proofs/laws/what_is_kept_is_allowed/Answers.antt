use Rattle.ow_commits.proofs.Allowing.{kept_allowed}
use Rattle.ow_commits.proofs.laws.what_is_kept_is_allowed.Goals as goal

pub returns : goal.returns
returns c = kept_allowed
