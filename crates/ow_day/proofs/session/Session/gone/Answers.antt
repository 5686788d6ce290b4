use Rattle.ow_decide.specs.declared.events.Event.TheVariants as events
use Rattle.ow_day.proofs.Meeting.{taken}
use Rattle.ow_day.proofs.session.Session.gone.Goals as goal

pub returns : goal.returns
returns g c = rw c.told_of.ensures (taken g.P.Keeper.telling c.args.self.now c.gone.new.self (events.Gone c.args.slot c.args.generation) c.gone.result c.gone.ensures)
