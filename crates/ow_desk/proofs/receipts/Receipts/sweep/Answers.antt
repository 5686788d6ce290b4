use Rattle.std.proofs.Common.{subst}
use Rattle.ow_decide.specs.declared.events.Told.{Told}
use Rattle.ow_decide.specs.declared.events.Event.TheVariants as events
use Rattle.ow_hall.specs.Comes.{Answers}
use Rattle.ow_desk.specs.Notes.{WasCalled}
use Rattle.ow_desk.proofs.Received.{fault_called, was_called}
use Rattle.ow_desk.proofs.receipts.Receipts.sweep.Goals as goal

pub returns-then-failed-clause-called : goal.returns-then-failed-clause-called
returns-then-failed-clause-called g c =
    fault_called g.P.Keeper.telling c.args.desk.now c.perform.new.desk c.args.at events.Sweep c.in-Err.undone.failed c.args.self.now.notes c.perform.new.self.notes
    c.if-failed.true c.in-Err.ensures.received

pub returns-in-Ok-clause-called : goal.returns-in-Ok-clause-called
returns-in-Ok-clause-called g c =
    subst (λ (t : Told). WasCalled c.args.at events.Sweep (Answers t) c.args.self.now.notes c.perform.new.self.notes) c.swept_in.ensures
    (was_called g.P.Keeper.telling c.args.desk.now c.perform.new.desk c.args.at events.Sweep (Answers c.in-Ok.told) c.args.self.now.notes c.perform.new.self.notes c.in-Ok.ensures.received)
