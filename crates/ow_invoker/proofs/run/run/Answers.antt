use Rattle.std.proofs.Common.{refl}
use Rattle.ow_invoker.proofs.Parts.{carried, early, missed, performs_from, unready}
use Rattle.ow_invoker.proofs.Running.{none_behind, refused_on, steady_trans, still_started}
use Rattle.ow_invoker.proofs.run.run.Goals as goal

pub returns-in-Up-clause-turns : goal.returns-in-Up-clause-turns
returns-in-Up-clause-turns g c =
    carried g.P.Keeper.telling (g.R.Runner.gives c.args.runner.now) (g.R.Runner.tally c.args.runner.now) (g.R.Runner.tally c.perform.new.runner) c.args.hall.now c.perform.new.hall c.args.at
    c.args.order.now c.args.shelf.now c.make_ready.new.shelf c.perform.new.shelf c.in-Up.ensures.ready.0 c.in-Up.ensures.ready.1 c.perform.result
    (performs_from g.P.Keeper.telling (g.R.Runner.gives c.args.runner.now) (g.R.Runner.gives c.make_ready.new.runner) (g.R.Runner.gives c.perform.new.runner) (g.R.Runner.tally c.args.runner.now)
    (g.R.Runner.tally c.make_ready.new.runner) (g.R.Runner.tally c.perform.new.runner) c.args.hall.now c.perform.new.hall c.args.at c.args.order.now c.make_ready.new.shelf c.perform.new.shelf c.perform.result
    c.in-Up.ensures.runner c.perform.ensures.runner.steady c.perform.ensures.performs)

pub returns-in-Early-clause-turns : goal.returns-in-Early-clause-turns
returns-in-Early-clause-turns g c =
    early g.P.Keeper.telling (g.R.Runner.gives c.args.runner.now) (g.R.Runner.tally c.args.runner.now) (g.R.Runner.tally c.settle.new.runner) c.args.hall.now c.settle.new.hall c.args.at
    c.args.order.now c.args.shelf.now c.make_ready.new.shelf c.settle.new.shelf c.in-Early.ensures.ready.0 c.in-Early.ensures.ready.1 c.in-Early.reply c.settle.result
    (refused_on (g.R.Runner.tally c.settle.new.runner) c.args.order.now.kind c.args.order.now.code c.in-Early.reply c.in-Early.ensures.runner.steady c.settle.ensures.runner.steady.later c.in-Early.ensures.ready.2)
    (none_behind (g.R.Runner.tally c.args.runner.now) (g.R.Runner.tally c.make_ready.new.runner) (g.R.Runner.tally c.settle.new.runner) c.in-Early.ensures.runner.ran c.settle.ensures.runner.ran)
    c.settle.ensures.settles

pub returns-in-NotHad-clause-turns : goal.returns-in-NotHad-clause-turns
returns-in-NotHad-clause-turns g c =
    missed g.P.Keeper.telling (g.R.Runner.gives c.args.runner.now) (g.R.Runner.tally c.args.runner.now) (g.R.Runner.tally c.make_ready.new.runner) c.args.hall.now c.lose.new.hall c.args.at
    c.args.order.now c.args.shelf.now c.make_ready.new.shelf c.lose.result c.in-NotHad.ensures.ready.0 c.in-NotHad.ensures.ready.1 c.in-NotHad.ensures.runner.ran c.lose.ensures

pub returns-in-NoMemory-clause-turns : goal.returns-in-NoMemory-clause-turns
returns-in-NoMemory-clause-turns g c =
    unready g.P.Keeper.telling (g.R.Runner.gives c.args.runner.now) (g.R.Runner.tally c.args.runner.now) (g.R.Runner.tally c.make_ready.new.runner) c.args.hall.now c.give_up.new.hall c.args.at
    c.args.order.now c.args.shelf.now c.make_ready.new.shelf c.make_ready.new.shelf c.in-NoMemory.ensures.ready.0 c.in-NoMemory.ensures.ready.1 _ c.give_up.result refl c.in-NoMemory.ensures.ready.2 c.in-NoMemory.ensures.runner.ran c.give_up.ensures

pub perform-requires : goal.perform-requires
perform-requires g c =
    still_started c.args.order.now.start (g.R.Runner.gives c.args.runner.now) (g.R.Runner.gives c.make_ready.new.runner) (g.R.Runner.tally c.args.runner.now) (g.R.Runner.tally c.make_ready.new.runner)
    c.args.order.now.kind c.in-Up.ensures.runner.steady c.in-Up.ensures.ready.2

pub returns-in-Up-clause-runner : goal.returns-in-Up-clause-runner
returns-in-Up-clause-runner g c = steady_trans c.in-Up.ensures.runner.steady c.perform.ensures.runner.steady

pub returns-in-Early-clause-runner : goal.returns-in-Early-clause-runner
returns-in-Early-clause-runner g c = steady_trans c.in-Early.ensures.runner.steady c.settle.ensures.runner.steady
