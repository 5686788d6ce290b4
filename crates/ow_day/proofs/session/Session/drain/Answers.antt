use Rattle.ow_decide.specs.declared.events.Event.TheVariants as events
use Rattle.ow_decide.specs.declared.events.Told.TheVariants as told
use Rattle.ow_hall.specs.Comes.{drain_outcome}
use Rattle.ow_day.proofs.Meeting.{met, wanted_so}
use Rattle.ow_day.proofs.session.Session.drain.Goals as goal

pub returns : goal.returns
returns g c = met g.P.Keeper.telling c.args.self.now c.drain.new.self events.Drain (told.Drain c.in_ok-drain.drain) c.in_ok-drain.ensures

pub returns-in_err-drain : goal.returns-in_err-drain
returns-in_err-drain g c =
    wanted_so g.P.Keeper.telling c.args.self.now c.drain.new.self events.Drain (drain_outcome c.drain.result) c.from_residual.result c.from_residual.ensures.0 c.drain.ensures
