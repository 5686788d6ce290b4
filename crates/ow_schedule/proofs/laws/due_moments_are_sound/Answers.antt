use Rattle.ow_schedule.specs.Due.{IsDue}
use Rattle.ow_schedule.proofs.Lists.{sound}
use Rattle.ow_schedule.proofs.laws.due_moments_are_sound.Goals as goal

pub returns : goal.returns
returns c = λ s. sound (IsDue s)
