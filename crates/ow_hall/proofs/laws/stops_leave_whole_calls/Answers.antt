use Rattle.ow_hall.proofs.StopLaws.{call_stops}
use Rattle.ow_hall.proofs.laws.stops_leave_whole_calls.Goals as goal

pub returns : goal.returns
returns g c = λ old new at event o comes. call_stops g.P.Keeper.telling old new at event o comes
