use Rattle.ow_commits.proofs.Opening.{openings_kept}
use Rattle.ow_commits.proofs.laws.openings_are_kept.Goals as goal

pub returns : goal.returns
returns c = openings_kept
