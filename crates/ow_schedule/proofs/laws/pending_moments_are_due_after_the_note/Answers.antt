use Rattle.std.proofs.Common.{◌-◌}
use Rattle.ow_schedule.specs.Due.{IsDue}
use Rattle.ow_schedule.proofs.Lists.{pending_is_filtered}
use Rattle.ow_schedule.proofs.laws.pending_moments_are_due_after_the_note.Goals as goal

pub returns : goal.returns
returns c = λ s noted at. pending_is_filtered (IsDue s) (at - 604800000) at noted
