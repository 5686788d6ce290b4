use Rattle.std.proofs.Common.{subst}
use Rattle.ow_decide.specs.declared.events.Event.TheVariants as events
use Rattle.ow_decide.specs.declared.events.Told.{Told}
use Rattle.ow_hall.specs.Comes.{Answers, at_hall}
use Rattle.ow_hall.specs.History.{counted, seen, sight}
use Rattle.ow_hall.proofs.KeepLaws.{drain_commits}
use Rattle.ow_desk.specs.Notes.{WasCalled}
use Rattle.ow_desk.proofs.Received.{wanted_called, was_called}
use Rattle.ow_desk.proofs.receipts.Receipts.drain.Goals as goal

pub returns-in-Ok-clause-called : goal.returns-in-Ok-clause-called
returns-in-Ok-clause-called g c =
    subst (λ (t : Told). WasCalled c.args.at events.Drain (Answers t) c.args.self.now.notes c.perform.new.self.notes) c.drain_in.ensures
    (was_called g.P.Keeper.telling c.args.desk.now c.perform.new.desk c.args.at events.Drain (Answers c.in-Ok.told) c.args.self.now.notes c.perform.new.self.notes c.in-Ok.ensures.received)

pub returns-in-Err-clause-called : goal.returns-in-Err-clause-called
returns-in-Err-clause-called g c =
    let h = c.args.desk.now.hall in
    wanted_called g.P.Keeper.telling c.args.desk.now c.perform.new.desk c.args.at events.Drain c.in-Err.undone.failed c.args.self.now.notes c.perform.new.self.notes
    (drain_commits (sight h.tenants (seen h.tenants h.ledger.entries) (counted h.ledger.entries) (at_hall h c.args.at))) c.in-Err.ensures.received
