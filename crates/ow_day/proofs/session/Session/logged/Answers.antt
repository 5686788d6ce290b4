use Rattle.std.proofs.Common.{◌≡◌, refl, subst}
use Rattle.ow_traits.specs.declared.replies.RunReply.{RunReply}
use Rattle.ow_traits.specs.declared.replies.RunReply.TheVariants as runs
use Rattle.ow_decide.specs.declared.events.Event.TheVariants as events
use Rattle.ow_day.specs.Line.{lines_of}
use Rattle.ow_day.specs.Machine.{Does, Meets}
use Rattle.ow_day.specs.Session.{ComesTo, machine_of}
use Rattle.ow_day.specs.Statement.{Logged}
use Rattle.ow_day.proofs.Meeting.{stays_so}
use Rattle.ow_day.proofs.session.Session.logged.Goals as goal

pub returns : goal.returns
returns g c =
    let same : runs.Answer c.in_ok-text.text c.in_ok-logs.logs ≡ runs.Answer c.args.text.now (lines_of c.args.count c.args.logs.now) = rw (c.in_ok-text.ensures, c.in_ok-logs.ensures) refl in
    subst (λ (r : RunReply). ComesTo g.P.Keeper.telling c.args.self.now c.reply.new.self (Meets (machine_of c.args.self.now) (events.Answered c.args.run r)) c.reply.result) same c.reply.ensures

pub returns-in_err-text : goal.returns-in_err-text
returns-in_err-text g c = stays_so g.P.Keeper.telling c.args.self.now (Does (machine_of c.args.self.now) (Logged c.args.run c.args.text.now (lines_of c.args.count c.args.logs.now))) c.from_residual.result c.from_residual.ensures.0

pub returns-in_err-logs : goal.returns-in_err-logs
returns-in_err-logs g c = stays_so g.P.Keeper.telling c.args.self.now (Does (machine_of c.args.self.now) (Logged c.args.run c.args.text.now (lines_of c.args.count c.args.logs.now))) c.from_residual-in_err-logs.result c.from_residual-in_err-logs.ensures.0
