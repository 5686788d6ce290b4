use Rattle.ow_isolation.proofs.UnseenLaws.{unseen_leaves}
use Rattle.ow_isolation.proofs.laws.unseen_events_leave_views.Goals as goal

pub returns : goal.returns
returns c = unseen_leaves
