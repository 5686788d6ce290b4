use Rattle.ow_decide.specs.declared.events.Event.TheVariants as events
use Rattle.ow_day.proofs.Meeting.{called, wanted_so}
use Rattle.ow_day.proofs.session.Session.invoke.Goals as goal

pub returns : goal.returns
returns g c = called g.P.Keeper.telling c.args.self.now c.call.new.self c.args.name.now c.args.params c.in_ok-called.called c.in_ok-called.ensures

pub returns-in_err-called : goal.returns-in_err-called
returns-in_err-called g c =
    wanted_so g.P.Keeper.telling c.args.self.now c.call.new.self (events.Called c.args.name.now c.args.params) c.call.ensures.0 c.from_residual.result c.from_residual.ensures.0 c.call.ensures.2
