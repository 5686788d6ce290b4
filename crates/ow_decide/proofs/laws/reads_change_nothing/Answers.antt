use Rattle.ow_decide.proofs.LeaveLaws.{reads_leave}
use Rattle.ow_decide.proofs.laws.reads_change_nothing.Goals as goal

pub returns : goal.returns
returns c = reads_leave
