use Rattle.ow_isolation.proofs.InvokeLaws.{invocations_leave}
use Rattle.ow_isolation.proofs.laws.unseen_invocations_leave_views.Goals as goal

pub returns : goal.returns
returns c = invocations_leave
