use Rattle.ow_isolation.proofs.OfficeFires.{office_fires_leave, quiet_fires_leave}
use Rattle.ow_isolation.proofs.laws.unseen_office_fires_leave_views.Goals as goal

pub returns-clause-hidden : goal.returns-clause-hidden
returns-clause-hidden c = office_fires_leave

pub returns-clause-quiet : goal.returns-clause-quiet
returns-clause-quiet c = quiet_fires_leave
