use Rattle.ow_keep.proofs.Opens.{opens_shallow}
use Rattle.ow_commits.proofs.Shallow.{abandoned_shallow, ends_shallow, fires_shallow}
use Rattle.ow_commits.proofs.laws.rows_of_activations_are_shallow.Goals as goal

pub returns-clause-opened : goal.returns-clause-opened
returns-clause-opened c = opens_shallow

pub returns-clause-ended : goal.returns-clause-ended
returns-clause-ended c = ends_shallow

pub returns-clause-abandoned : goal.returns-clause-abandoned
returns-clause-abandoned c = abandoned_shallow

pub returns-clause-fired : goal.returns-clause-fired
returns-clause-fired c = fires_shallow
