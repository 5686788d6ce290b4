use Rattle.ow_schedule.proofs.Lists.{rest_is_pending}
use Rattle.ow_schedule.proofs.laws.the_others_stay_pending.Goals as goal

pub returns : goal.returns
returns c = rest_is_pending
