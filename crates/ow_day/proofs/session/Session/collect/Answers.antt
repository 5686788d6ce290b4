use Rattle.ow_decide.specs.declared.events.Event.TheVariants as events
use Rattle.ow_decide.specs.declared.events.Told.TheVariants as told
use Rattle.ow_hall.specs.Comes.{collect_outcome}
use Rattle.ow_day.proofs.Meeting.{met, wanted_so}
use Rattle.ow_day.proofs.session.Session.collect.Goals as goal

pub returns : goal.returns
returns g c = met g.P.Keeper.telling c.args.self.now c.collect.new.self (events.Collected c.args.id) (told.Collected c.in_ok-collected.collected) c.in_ok-collected.ensures

pub returns-in_err-collected : goal.returns-in_err-collected
returns-in_err-collected g c =
    wanted_so g.P.Keeper.telling c.args.self.now c.collect.new.self (events.Collected c.args.id) (collect_outcome c.collect.result) c.from_residual.result c.from_residual.ensures.0 c.collect.ensures
