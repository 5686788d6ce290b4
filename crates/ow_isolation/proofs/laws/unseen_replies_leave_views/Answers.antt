use Rattle.ow_isolation.proofs.ReplyLaws.{replies_leave}
use Rattle.ow_isolation.proofs.laws.unseen_replies_leave_views.Goals as goal

pub returns : goal.returns
returns c = replies_leave
