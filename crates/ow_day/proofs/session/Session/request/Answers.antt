use Rattle.ow_decide.specs.declared.events.Event.TheVariants as events
use Rattle.ow_day.proofs.Meeting.{asked, wanted_so}
use Rattle.ow_day.proofs.session.Session.request.Goals as goal

pub returns : goal.returns
returns g c = asked g.P.Keeper.telling c.args.self.now c.ask.new.self c.args.request.now c.in_ok-reply.reply c.in_ok-reply.ensures

pub returns-in_err-reply : goal.returns-in_err-reply
returns-in_err-reply g c =
    wanted_so g.P.Keeper.telling c.args.self.now c.ask.new.self (events.Asked c.args.request.now) c.ask.ensures.0 c.from_residual.result c.from_residual.ensures.0 c.ask.ensures.2
