use Rattle.ow_decide.specs.declared.events.Event.TheVariants as events
use Rattle.ow_decide.specs.declared.events.Told.TheVariants as told
use Rattle.ow_hall.specs.Comes.{next_outcome}
use Rattle.ow_day.proofs.Meeting.{met, wanted_so}
use Rattle.ow_day.proofs.session.Session.next.Goals as goal

pub returns : goal.returns
returns g c = met g.P.Keeper.telling c.args.self.now c.next.new.self events.Next (told.Next c.in_ok-order.order) c.in_ok-order.ensures

pub returns-in_err-order : goal.returns-in_err-order
returns-in_err-order g c =
    wanted_so g.P.Keeper.telling c.args.self.now c.next.new.self events.Next (next_outcome c.next.result) c.from_residual.result c.from_residual.ensures.0 c.next.ensures
