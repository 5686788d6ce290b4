use Rattle.ow_isolation.proofs.HallLaws.{leaves_halls, replies_of_view}
use Rattle.ow_isolation.proofs.laws.reads_of_a_hall_are_isolated.Goals as goal

pub returns-clause-replied : goal.returns-clause-replied
returns-clause-replied g c = replies_of_view g.P.Keeper.telling c.reads_are_answered_of_the_view.ensures c.reads_change_nothing.ensures

pub returns-clause-left : goal.returns-clause-left
returns-clause-left g c = leaves_halls g.P.Keeper.telling c.reads_are_answered_of_the_view.ensures c.reads_change_nothing.ensures
