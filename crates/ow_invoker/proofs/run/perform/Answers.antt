use Rattle.ow_invoker.proofs.Parts.{given_up, performed}
use Rattle.ow_invoker.proofs.Running.{replied_on, runs_idles}
use Rattle.ow_invoker.proofs.run.perform.Goals as goal

pub returns-in-Ok-clause-performs : goal.returns-in-Ok-clause-performs
returns-in-Ok-clause-performs g c =
    performed g.P.Keeper.telling (g.R.Runner.gives c.args.runner.now) (g.R.Runner.tally c.args.runner.now) (g.R.Runner.tally c.settle.new.runner) c.args.hall.now c.begin.new.hall c.settle.new.hall
    c.args.at c.args.order.now c.in-Ok.reply c.args.shelf.now c.settle.new.shelf c.settle.result c.requires
    (replied_on (g.R.Runner.tally c.settle.new.runner) c.args.order.now.kind c.args.order.now.code c.args.order.now.params c.in-Ok.reply c.run.ensures.runs.steady c.settle.ensures.runner.steady.later c.in-Ok.ensures.reply)
    (runs_idles c.run.ensures.runs c.settle.ensures.runner).ran
    c.begin.ensures c.settle.ensures.settles

pub returns-in-Err-clause-performs : goal.returns-in-Err-clause-performs
returns-in-Err-clause-performs g c =
    given_up g.P.Keeper.telling (g.R.Runner.gives c.args.runner.now) (g.R.Runner.tally c.args.runner.now) (g.R.Runner.tally c.stop.new.runner) c.args.hall.now c.begin.new.hall c.give_up.new.hall
    c.args.at c.args.order.now c.args.shelf.now _ c.give_up.result
    (runs_idles c.run.ensures.runs c.stop.ensures).ran c.begin.ensures c.give_up.ensures

pub returns-in-Ok-clause-runner : goal.returns-in-Ok-clause-runner
returns-in-Ok-clause-runner g c = runs_idles c.run.ensures.runs c.settle.ensures.runner

pub returns-in-Err-clause-runner : goal.returns-in-Err-clause-runner
returns-in-Err-clause-runner g c = runs_idles c.run.ensures.runs c.stop.ensures
