use Rattle.ow_floor.specs.declared.answers.Order.TheVariants as orders
use Rattle.ow_invoker.proofs.Orders.{in_list}
use Rattle.ow_invoker.proofs.turn.carry.Goals as goal

pub returns-in-Run-clause-turns : goal.returns-in-Run-clause-turns
returns-in-Run-clause-turns g c =
    rw c.in-Run.is (in_list g.P.Keeper.telling c.args.hall.now c.args.at (g.R.Runner.gives c.args.runner.now) (g.R.Runner.tally c.args.runner.now) (g.R.Runner.tally c.run.new.runner)
    c.run.new.hall c.args.shelf.now c.run.new.shelf (orders.Run c.in-Run.order) c.run.result c.list.result c.run.ensures.turns c.list.ensures)

pub returns-in-Prewarm-clause-turns : goal.returns-in-Prewarm-clause-turns
returns-in-Prewarm-clause-turns g c =
    rw c.in-Prewarm.is (in_list g.P.Keeper.telling c.args.hall.now c.args.at (g.R.Runner.gives c.args.runner.now) (g.R.Runner.tally c.args.runner.now) (g.R.Runner.tally c.prewarm.new.runner)
    c.prewarm.new.hall c.args.shelf.now c.prewarm.new.shelf (orders.Prewarm c.in-Prewarm.order) c.prewarm.result c.list-in-Prewarm.result c.prewarm.ensures.turns c.list-in-Prewarm.ensures)
