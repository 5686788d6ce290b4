use Rattle.ow_isolation.proofs.ReadLaws.{answers_of_view, leaves_all, leaves_views}
use Rattle.ow_isolation.proofs.laws.reads_of_a_log_are_isolated.Goals as goal

pub returns-clause-answered : goal.returns-clause-answered
returns-clause-answered c = answers_of_view c.reads_are_answered_of_the_view.ensures

pub returns-clause-left : goal.returns-clause-left
returns-clause-left c = leaves_all c.reads_change_nothing.ensures

pub returns-clause-views : goal.returns-clause-views
returns-clause-views c = leaves_views c.reads_change_nothing.ensures
