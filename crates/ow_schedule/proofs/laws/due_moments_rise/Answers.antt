use Rattle.ow_schedule.specs.Due.{IsDue}
use Rattle.ow_schedule.proofs.Lists.{rises}
use Rattle.ow_schedule.proofs.laws.due_moments_rise.Goals as goal

pub returns : goal.returns
returns c = λ s. rises (IsDue s)
