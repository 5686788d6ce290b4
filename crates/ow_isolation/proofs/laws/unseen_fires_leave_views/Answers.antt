use Rattle.ow_isolation.proofs.FireLaws.{fires_leave}
use Rattle.ow_isolation.proofs.laws.unseen_fires_leave_views.Goals as goal

pub returns : goal.returns
returns c = fires_leave
