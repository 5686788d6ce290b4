use Rattle.ow_schedule.specs.Due.{IsDue}
use Rattle.ow_schedule.proofs.Nexts.{all_are_one}
use Rattle.ow_schedule.proofs.laws.due_moments_are_one_list.Goals as goal

pub returns : goal.returns
returns c = λ s. all_are_one (IsDue s)
