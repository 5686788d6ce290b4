use Rattle.ow_decide.specs.declared.events.Event.TheVariants as events
use Rattle.ow_day.proofs.Meeting.{taken}
use Rattle.ow_day.proofs.session.Session.lost.Goals as goal

pub returns : goal.returns
returns g c = rw c.told_of.ensures (taken g.P.Keeper.telling c.args.self.now c.lost.new.self (events.Lost c.args.run) c.lost.result c.lost.ensures)
