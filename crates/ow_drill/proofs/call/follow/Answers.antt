use Rattle.ow_day.specs.Statement.{Turn}
use Rattle.ow_drill.proofs.Going.{comes_later, counts_none, refused_so, turned_so}
use Rattle.ow_drill.proofs.call.follow.Goals as goal

pub returns-then-not-accepted : goal.returns-then-not-accepted
returns-then-not-accepted g c = rw c.if-not-accepted.true (refused_so g.P.Keeper.telling c.args.session.now)

pub returns-in_err-outcome : goal.returns-in_err-outcome
returns-in_err-outcome g c =
    counts_none g.P.Keeper.telling c.args.session.now c.turn.new.self _ c.from_residual.result c.from_residual.ensures.0
    (comes_later g.P.Keeper.telling c.args.session.now c.turn.new.self Turn c.turn.result c.turn.ensures)

pub returns-in_err-recorded : goal.returns-in_err-recorded
returns-in_err-recorded g c =
    counts_none g.P.Keeper.telling c.args.session.now c.turn.new.self _ c.from_residual-in_err-recorded.result c.from_residual-in_err-recorded.ensures.0
    (comes_later g.P.Keeper.telling c.args.session.now c.turn.new.self Turn c.turn.result c.turn.ensures)

pub returns : goal.returns
returns g c = rw c.if-not-accepted.false (turned_so g.P.Keeper.telling c.args.session.now c.turn.new.self c.in_ok-outcome.outcome c.in_ok-recorded.recorded c.in_ok-outcome.ensures c.in_ok-recorded.ensures)
