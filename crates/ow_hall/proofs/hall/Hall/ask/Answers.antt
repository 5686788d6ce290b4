use Rattle.std.proofs.Common.{IsSome, sym, subst}
use Rattle.ow_decide.specs.declared.events.Told.{Told}
use Rattle.ow_decide.specs.Asking.{reply_in}
use Rattle.ow_decide.proofs.AskLaws.{ask_replies}
use Rattle.ow_decide.specs.declared.events.Event.TheVariants as events
use Rattle.ow_hall.proofs.UndoneLaws.{unasked}
use Rattle.ow_hall.proofs.hall.Hall.ask.Goals as goal

pub reply_in-requires : goal.reply_in-requires
reply_in-requires g c = subst (λ (t : Told). IsSome (reply_in t)) (sym c.in-Ok.ensures.comes.0) (ask_replies _)

pub returns-in_err-copy : goal.returns-in_err-copy
returns-in_err-copy g c =
    unasked g.P.Keeper.telling c.args.self.now c.args.at (events.Asked c.args.request.now) c.from_residual.result c.from_residual.ensures.0

pub returns-in_err-request : goal.returns-in_err-request
returns-in_err-request g c =
    unasked g.P.Keeper.telling c.args.self.now c.args.at (events.Asked c.args.request.now) c.from_residual-in_err-request.result c.from_residual-in_err-request.ensures.0

pub returns-in_err-request-2 : goal.returns-in_err-request-2
returns-in_err-request-2 g c =
    unasked g.P.Keeper.telling c.args.self.now c.args.at (events.Asked c.args.request.now) c.from_residual-in_err-request-2.result c.from_residual-in_err-request-2.ensures.0
