use Rattle.std.proofs.Common.{◌∙◌, sym, subst}
use Rattle.ow_floor.specs.declared.answers.Order.{Order}
use Rattle.ow_decide.specs.declared.events.Event.TheVariants as events
use Rattle.ow_decide.specs.declared.events.Told.{Told}
use Rattle.ow_hall.specs.Comes.{Answers, at_hall}
use Rattle.ow_hall.specs.History.{answer, counted, seen, sight}
use Rattle.ow_hall.proofs.KeepLaws.{next_commits}
use Rattle.ow_desk.specs.Fitting.{Fits}
use Rattle.ow_desk.specs.Notes.{WasCalled}
use Rattle.ow_desk.proofs.Bounds.{ordered, orders_fit}
use Rattle.ow_desk.proofs.Received.{wanted_called, was_called}
use Rattle.ow_desk.proofs.receipts.Receipts.next.Goals as goal

pub returns-in-Ok-clause-fits : goal.returns-in-Ok-clause-fits
returns-in-Ok-clause-fits g c =
    let h = c.args.desk.now.hall in
    let told = ◌∙◌ {c = answer h.tenants h.ledger.entries (at_hall h c.args.at) events.Next} (sym c.order_in.ensures) c.in-Ok.ensures.received.comes.0 in
    subst (λ (o : Order). Fits o) (sym (ordered h.tenants h.ledger.entries (at_hall h c.args.at) c.order_in.result told))
    (orders_fit h.tenants h.ledger.entries (at_hall h c.args.at) c.in-Ok.ensures.pool)

pub returns-in-Ok-clause-called : goal.returns-in-Ok-clause-called
returns-in-Ok-clause-called g c =
    subst (λ (t : Told). WasCalled c.args.at events.Next (Answers t) c.args.self.now.notes c.perform.new.self.notes) c.order_in.ensures
    (was_called g.P.Keeper.telling c.args.desk.now c.perform.new.desk c.args.at events.Next (Answers c.in-Ok.told) c.args.self.now.notes c.perform.new.self.notes c.in-Ok.ensures.received)

pub returns-in-Err-clause-called : goal.returns-in-Err-clause-called
returns-in-Err-clause-called g c =
    let h = c.args.desk.now.hall in
    wanted_called g.P.Keeper.telling c.args.desk.now c.perform.new.desk c.args.at events.Next c.in-Err.undone.failed c.args.self.now.notes c.perform.new.self.notes
    (next_commits (sight h.tenants (seen h.tenants h.ledger.entries) (counted h.ledger.entries) (at_hall h c.args.at))) c.in-Err.ensures.received
