use Rattle.std.proofs.Common.{IsSome, Ok, refl, rules, sym, subst}
use Rattle.ow_decide.specs.declared.events.Event.TheVariants as events
use Rattle.ow_decide.specs.declared.events.Told.{Told}
use Rattle.ow_decide.specs.Asking.{reply_in}
use Rattle.ow_decide.proofs.AskLaws.{ask_replies}
use Rattle.ow_hall.specs.Comes.{Outcome, Replies, Wants}
use Rattle.ow_desk.specs.Desks.{IsReceived}
use Rattle.ow_desk.proofs.Received.{nothing_received, reply_was_called, wants_of, was_called}
use Rattle.ow_desk.proofs.receipts.Receipts.ask.Goals as goal

pub reply_in-requires : goal.reply_in-requires
reply_in-requires g c = subst (λ (t : Told). IsSome (reply_in t)) (sym c.in-Ok.ensures.received.comes.0) (ask_replies _)

pub returns-in_err-failed-clause-received : goal.returns-in_err-failed-clause-received
returns-in_err-failed-clause-received g c =
    (Wants, wants_of c.from_residual.result c.from_residual.ensures.0, nothing_received g.P.Keeper.telling c.args.desk.now c.args.at (events.Asked c.args.request.now) c.args.self.now.notes c.args.self.now.notes refl)

pub returns-in_err-copy-clause-received : goal.returns-in_err-copy-clause-received
returns-in_err-copy-clause-received g c =
    (Wants, wants_of c.from_residual-in_err-copy.result c.from_residual-in_err-copy.ensures.0, nothing_received g.P.Keeper.telling c.args.desk.now c.args.at (events.Asked c.args.request.now) c.args.self.now.notes c.args.self.now.notes refl)

pub returns-in_err-request-clause-received : goal.returns-in_err-request-clause-received
returns-in_err-request-clause-received g c =
    (Wants, wants_of c.from_residual-in_err-request.result c.from_residual-in_err-request.ensures.0, nothing_received g.P.Keeper.telling c.args.desk.now c.args.at (events.Asked c.args.request.now) c.args.self.now.notes c.args.self.now.notes refl)

pub returns-in_err-failed-clause-called : goal.returns-in_err-failed-clause-called
returns-in_err-failed-clause-called g c =
    let received : (o : Outcome) × Replies c.from_residual.result o × IsReceived g.P.Keeper.telling c.args.desk.now c.args.desk.now c.args.at (events.Asked c.args.request.now) o c.args.self.now.notes c.args.self.now.notes =
    (Wants, wants_of c.from_residual.result c.from_residual.ensures.0, nothing_received g.P.Keeper.telling c.args.desk.now c.args.at (events.Asked c.args.request.now) c.args.self.now.notes c.args.self.now.notes refl) in
    reply_was_called g.P.Keeper.telling c.args.desk.now c.args.desk.now c.args.at (events.Asked c.args.request.now) c.from_residual.result c.args.self.now.notes c.args.self.now.notes received

pub returns-in_err-copy-clause-called : goal.returns-in_err-copy-clause-called
returns-in_err-copy-clause-called g c =
    let received : (o : Outcome) × Replies c.from_residual-in_err-copy.result o × IsReceived g.P.Keeper.telling c.args.desk.now c.args.desk.now c.args.at (events.Asked c.args.request.now) o c.args.self.now.notes c.args.self.now.notes =
    (Wants, wants_of c.from_residual-in_err-copy.result c.from_residual-in_err-copy.ensures.0, nothing_received g.P.Keeper.telling c.args.desk.now c.args.at (events.Asked c.args.request.now) c.args.self.now.notes c.args.self.now.notes refl) in
    reply_was_called g.P.Keeper.telling c.args.desk.now c.args.desk.now c.args.at (events.Asked c.args.request.now) c.from_residual-in_err-copy.result c.args.self.now.notes c.args.self.now.notes received

pub returns-in_err-request-clause-called : goal.returns-in_err-request-clause-called
returns-in_err-request-clause-called g c =
    let received : (o : Outcome) × Replies c.from_residual-in_err-request.result o × IsReceived g.P.Keeper.telling c.args.desk.now c.args.desk.now c.args.at (events.Asked c.args.request.now) o c.args.self.now.notes c.args.self.now.notes =
    (Wants, wants_of c.from_residual-in_err-request.result c.from_residual-in_err-request.ensures.0, nothing_received g.P.Keeper.telling c.args.desk.now c.args.at (events.Asked c.args.request.now) c.args.self.now.notes c.args.self.now.notes refl) in
    reply_was_called g.P.Keeper.telling c.args.desk.now c.args.desk.now c.args.at (events.Asked c.args.request.now) c.from_residual-in_err-request.result c.args.self.now.notes c.args.self.now.notes received

pub returns-then-store_failed-clause-called : goal.returns-then-store_failed-clause-called
returns-then-store_failed-clause-called g c =
    let received : (o : Outcome) × Replies (Ok c.in_ok-failed.failed) o × IsReceived g.P.Keeper.telling c.args.desk.now c.perform.new.desk c.args.at (events.Asked c.args.request.now) o c.args.self.now.notes c.perform.new.self.notes = search rules in
    reply_was_called g.P.Keeper.telling c.args.desk.now c.perform.new.desk c.args.at (events.Asked c.args.request.now) (Ok c.in_ok-failed.failed) c.args.self.now.notes c.perform.new.self.notes received

pub returns-else-store_failed-clause-called : goal.returns-else-store_failed-clause-called
returns-else-store_failed-clause-called g c =
    let received : IsReceived g.P.Keeper.telling c.args.desk.now c.perform.new.desk c.args.at (events.Asked c.args.request.now) Wants c.args.self.now.notes c.perform.new.self.notes = search rules in
    (Wants, refl, was_called g.P.Keeper.telling c.args.desk.now c.perform.new.desk c.args.at (events.Asked c.args.request.now) Wants c.args.self.now.notes c.perform.new.self.notes received)
