use Rattle.ow_day.specs.Statement.{Drain}
use Rattle.ow_drill.proofs.Going.{comes_later, counts_later, counts_none, later_then, made_so}
use Rattle.ow_drill.proofs.drill.make.Goals as goal

pub returns-in_err-tally : goal.returns-in_err-tally
returns-in_err-tally g c =
    counts_none g.P.Keeper.telling c.args.session.now c.make_calls.new.session _ c.from_residual.result c.from_residual.ensures.0
    (counts_later g.P.Keeper.telling c.args.session.now c.make_calls.new.session _ c.make_calls.result c.make_calls.ensures)

pub returns-in_err-drain : goal.returns-in_err-drain
returns-in_err-drain g c =
    counts_none g.P.Keeper.telling c.args.session.now c.drain.new.self _ c.from_residual-in_err-drain.result c.from_residual-in_err-drain.ensures.0
    (later_then g.P.Keeper.telling c.args.session.now c.make_calls.new.session c.drain.new.self
    (counts_later g.P.Keeper.telling c.args.session.now c.make_calls.new.session _ c.make_calls.result c.make_calls.ensures)
    (comes_later g.P.Keeper.telling c.make_calls.new.session c.drain.new.self Drain c.drain.result c.drain.ensures))

pub returns : goal.returns
returns g c =
    made_so g.P.Keeper.telling c.args.n c.args.seed c.args.session.now c.make_calls.new.session c.drain.new.self c.in_ok-tally.tally c.in_ok-drain.field-0 c.in_ok-tally.ensures c.in_ok-drain.ensures
