use Rattle.ow_isolation.proofs.ListLaws.{logs_alike}
use Rattle.ow_isolation.proofs.laws.logs_answer_alike.Goals as goal

pub returns : goal.returns
returns c = logs_alike c.reads_are_answered_of_the_view.ensures c.reads_change_nothing.ensures
