use Rattle.ow_invoker.proofs.Parts.{initialised_from, up_started}
use Rattle.ow_invoker.proofs.readying.open.Goals as goal

pub returns-in-Ok-Up-clause-ready : goal.returns-in-Ok-Up-clause-ready
returns-in-Ok-Up-clause-ready g c =
    initialised_from (g.R.Runner.gives c.args.runner.now) (g.R.Runner.gives c.start.new.self) (g.R.Runner.gives c.initialise.new.runner) (g.R.Runner.tally c.args.runner.now) (g.R.Runner.tally c.start.new.self)
    (g.R.Runner.tally c.initialise.new.runner) c.args.order.now c.initialise.result c.start.ensures.idles.steady c.initialise.ensures.runner.steady c.initialise.ensures.ready

pub returns-in-Ok-Up-clause-started : goal.returns-in-Ok-Up-clause-started
returns-in-Ok-Up-clause-started g c = up_started (g.R.Runner.gives c.args.runner.now) c.args.order.now c.initialise.result (rw c.in-Ok-Up.field-0-is at c.in-Ok-Up.ensures.started)
