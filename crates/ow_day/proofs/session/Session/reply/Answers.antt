use Rattle.ow_decide.specs.declared.events.Event.TheVariants as events
use Rattle.ow_decide.specs.declared.events.Told.TheVariants as told
use Rattle.ow_day.proofs.Meeting.{denied, met}
use Rattle.ow_day.proofs.session.Session.reply.Goals as goal

pub returns-in-Ok : goal.returns-in-Ok
returns-in-Ok g c = met g.P.Keeper.telling c.args.self.now c.answered.new.self (events.Answered c.args.run c.args.reply) (told.Answered c.in-Ok.answered) c.in-Ok.ensures.comes

pub returns-in-Err : goal.returns-in-Err
returns-in-Err g c = denied g.P.Keeper.telling c.args.self.now c.answered.new.self c.args.run c.args.reply c.in-Err.refused c.unanswered.result c.in-Err.ensures.comes c.unanswered.ensures
