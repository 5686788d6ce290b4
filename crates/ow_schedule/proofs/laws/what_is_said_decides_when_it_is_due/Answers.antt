use Rattle.ow_schedule.proofs.Said.{said_decides_due}
use Rattle.ow_schedule.proofs.laws.what_is_said_decides_when_it_is_due.Goals as goal

pub returns : goal.returns
returns c = said_decides_due
