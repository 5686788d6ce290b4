use Rattle.std.proofs.Common.{rules}
use Rattle.ow_decide.specs.declared.events.Event.TheVariants as events
use Rattle.ow_hall.specs.Comes.{Wants}
use Rattle.ow_desk.specs.Desks.{IsReceived}
use Rattle.ow_desk.proofs.Received.{was_called}
use Rattle.ow_desk.proofs.receipts.Receipts.collect.Goals as goal

pub returns-in-Err-clause-called : goal.returns-in-Err-clause-called
returns-in-Err-clause-called g c =
    let received : IsReceived g.P.Keeper.telling c.args.desk.now c.perform.new.desk c.args.at (events.Collected c.args.id.now) Wants c.args.self.now.notes c.perform.new.self.notes = search rules in
    was_called g.P.Keeper.telling c.args.desk.now c.perform.new.desk c.args.at (events.Collected c.args.id.now) Wants c.args.self.now.notes c.perform.new.self.notes received
