use Rattle.ow_isolation.proofs.ListLaws.{halls_alike}
use Rattle.ow_isolation.proofs.laws.halls_answer_alike.Goals as goal

pub returns : goal.returns
returns g c = halls_alike g.P.Keeper.telling g.Q.Keeper.telling c.reads_are_answered_of_the_view.ensures c.reads_change_nothing.ensures
