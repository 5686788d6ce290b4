use Rattle.ow_commits.proofs.Untouched.{bytes_beside, others_untouched}
use Rattle.ow_commits.proofs.laws.others_stay_kept.Goals as goal

pub returns-clause-kept : goal.returns-clause-kept
returns-clause-kept c = others_untouched

pub returns-clause-bytes : goal.returns-clause-bytes
returns-clause-bytes c = bytes_beside
