use Rattle.ow_invoker.proofs.Parts.{ended, stayed, taken_back}
use Rattle.ow_invoker.proofs.run.end.Goals as goal

pub returns-then-late-clause-ends : goal.returns-then-late-clause-ends
returns-then-late-clause-ends g c =
    taken_back g.P.Keeper.telling c.args.hall.now c.clear.new.hall c.args.at c.args.order.now c.args.shelf.now c.clear.new.shelf c.args.answers c.args.late c.clear.result
    c.if-answers.true c.if-late.true c.clear.ensures.shelf c.clear.ensures.tells

pub returns-then-answers-clause-ends : goal.returns-then-answers-clause-ends
returns-then-answers-clause-ends g c =
    stayed g.P.Keeper.telling c.args.hall.now c.args.at c.args.order.now c.args.shelf.now c.args.answers c.args.late c.if-answers.true c.if-late.false

pub returns-clause-ends : goal.returns-clause-ends
returns-clause-ends g c =
    ended g.P.Keeper.telling c.args.hall.now c.report_gone.new.hall c.args.at c.args.order.now c.args.shelf.now c.args.answers c.args.late c.report_gone.result
    c.if-answers.false c.report_gone.ensures
