use Rattle.ow_invoker.proofs.Orders.{unheld, unwarmed, warmed}
use Rattle.ow_invoker.proofs.warming.prewarm.Goals as goal

pub returns-in-Warmed-clause-turns : goal.returns-in-Warmed-clause-turns
returns-in-Warmed-clause-turns g c =
    warmed g.P.Keeper.telling c.args.hall.now c.args.at (g.R.Runner.gives c.args.runner.now) (g.R.Runner.tally c.args.runner.now) (g.R.Runner.tally c.warm.new.runner) c.begun.new.self
    c.args.shelf.now c.warm.new.shelf c.args.order.now _ c.in-Warmed.ensures.warms c.in-Warmed.ensures.runner.ran c.begun.ensures

pub returns-in-Down-clause-turns : goal.returns-in-Down-clause-turns
returns-in-Down-clause-turns g c =
    unwarmed g.P.Keeper.telling c.args.hall.now c.args.at (g.R.Runner.gives c.args.runner.now) (g.R.Runner.tally c.args.runner.now) (g.R.Runner.tally c.warm.new.runner) c.give_up.new.hall
    c.args.shelf.now c.warm.new.shelf c.args.order.now c.give_up.result c.in-Down.ensures.warms.0 c.in-Down.ensures.warms.1 c.in-Down.ensures.runner.ran c.give_up.ensures

pub returns-in-Unheld-clause-turns : goal.returns-in-Unheld-clause-turns
returns-in-Unheld-clause-turns g c =
    unheld g.P.Keeper.telling c.args.hall.now c.args.at (g.R.Runner.gives c.args.runner.now) (g.R.Runner.tally c.args.runner.now) (g.R.Runner.tally c.warm.new.runner) c.give_up-in-Unheld.new.hall
    c.args.shelf.now c.warm.new.shelf c.args.order.now _ c.give_up-in-Unheld.result c.in-Unheld.ensures.warms c.in-Unheld.ensures.runner.ran c.give_up-in-Unheld.ensures
