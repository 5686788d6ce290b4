use Rattle.ow_schedule.specs.Due.{IsDue}
use Rattle.ow_schedule.proofs.Lists.{complete}
use Rattle.ow_schedule.proofs.laws.due_moments_are_complete.Goals as goal

pub returns : goal.returns
returns c = λ s. complete (IsDue s)
