use Rattle.std.proofs.Common.{rules}
use Rattle.ow_decide.specs.declared.events.Event.TheVariants as events
use Rattle.ow_hall.specs.Comes.{reply_outcome}
use Rattle.ow_desk.specs.Desks.{IsReceived}
use Rattle.ow_desk.proofs.Received.{reply_called, was_called}
use Rattle.ow_desk.proofs.receipts.Receipts.answered.Goals as goal

pub returns-in-Err-clause-called : goal.returns-in-Err-clause-called
returns-in-Err-clause-called g c =
    reply_called g.P.Keeper.telling c.args.desk.now c.perform.new.desk c.args.at (events.Answered c.args.run c.args.reply) c.reply_of.result c.in-Err.field-0.failed c.unanswered.result
    c.args.self.now.notes c.perform.new.self.notes c.unanswered.ensures c.in-Err.ensures.received

pub returns-in-Ok-clause-called : goal.returns-in-Ok-clause-called
returns-in-Ok-clause-called g c =
    let event = events.Answered c.args.run c.args.reply in
    let o = reply_outcome c.answered_in.result in
    let received : IsReceived g.P.Keeper.telling c.args.desk.now c.perform.new.desk c.args.at event o c.args.self.now.notes c.perform.new.self.notes = search rules in
    was_called g.P.Keeper.telling c.args.desk.now c.perform.new.desk c.args.at event o c.args.self.now.notes c.perform.new.self.notes received
