use Rattle.std.proofs.Common.{None, Some, inr, refl}
use Rattle.ow_floor.specs.declared.answers.Answered.TheVariants.{Late, Recorded}
use Rattle.ow_decide.specs.declared.events.Told.TheVariants as told
use Rattle.ow_invoker.specs.declared.turn.TurnStep.TheVariants.{Happened}
use Rattle.ow_invoker.proofs.Parts.{booked}
use Rattle.ow_invoker.proofs.run.book.Goals as goal

pub returns-in-Ok-Recorded-clause-books : goal.returns-in-Ok-Recorded-clause-books
returns-in-Ok-Recorded-clause-books g c =
    booked g.P.Keeper.telling c.args.hall.now c.answered.new.self c.end-gone.new.hall c.args.at c.args.order.now c.args.reply c.is_answer-answers.result c.args.shelf.now c.end-gone.new.shelf
    (Some (Happened c.in-Ok-Recorded.happened)) (told.Answered (Recorded c.in-Ok-Recorded.happened)) c.end-gone.result
    c.is_answer-answers.ensures (rw c.in-Ok-Recorded.field-0-is at c.in-Ok-Recorded.ensures.comes) refl c.end-gone.ensures.ends

pub returns-in-Ok-Late-clause-books : goal.returns-in-Ok-Late-clause-books
returns-in-Ok-Late-clause-books g c =
    booked g.P.Keeper.telling c.args.hall.now c.answered.new.self c.end.new.hall c.args.at c.args.order.now c.args.reply c.is_answer-answers.result c.args.shelf.now c.end.new.shelf
    None (told.Answered (Late c.in-Ok-Late.field-0-0 c.in-Ok-Late.field-0-1)) c.end.result
    c.is_answer-answers.ensures (rw c.in-Ok-Late.field-0-is at c.in-Ok-Late.ensures.comes) refl c.end.ensures.ends

pub returns-in-Err-NoRun-clause-books : goal.returns-in-Err-NoRun-clause-books
returns-in-Err-NoRun-clause-books g c =
    booked g.P.Keeper.telling c.args.hall.now c.answered.new.self c.end-in-Err-NoRun.new.hall c.args.at c.args.order.now c.args.reply c.is_answer-answers.result c.args.shelf.now c.end-in-Err-NoRun.new.shelf
    None (told.NoRun c.in-Err-NoRun.field-0-0 c.in-Err-NoRun.field-0-1) c.end-in-Err-NoRun.result
    c.is_answer-answers.ensures (rw c.in-Err-NoRun.field-0-is at c.in-Err-NoRun.ensures.comes) refl c.end-in-Err-NoRun.ensures.ends

pub returns-in-Err-StoreFault-clause-books : goal.returns-in-Err-StoreFault-clause-books
returns-in-Err-StoreFault-clause-books g c = inr (refl, (rw c.in-Err-StoreFault.field-0-is at c.in-Err-StoreFault.ensures.comes, refl))
