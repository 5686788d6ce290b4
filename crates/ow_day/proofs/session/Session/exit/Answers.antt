use Rattle.std.proofs.Common.{subst}
use Rattle.ow_traits.specs.declared.replies.RunReply.{RunReply}
use Rattle.ow_decide.specs.declared.events.Event.TheVariants as events
use Rattle.ow_day.specs.Machine.{Meets}
use Rattle.ow_day.specs.Session.{ComesTo, machine_of}
use Rattle.ow_day.proofs.session.Session.exit.Goals as goal

pub returns : goal.returns
returns g c =
    subst (λ (r : RunReply). ComesTo g.P.Keeper.telling c.args.self.now c.reply.new.self (Meets (machine_of c.args.self.now) (events.Answered c.args.run r)) c.reply.result) c.exited-ended.ensures c.reply.ensures
