use Rattle.std.proofs.Common.{inr, refl}
use Rattle.ow_traits.specs.Runner.{RefusesCode}
use Rattle.ow_board.specs.Board.{view_of}
use Rattle.ow_invoker.proofs.Running.{none_behind, refused_on, steady_trans, still_started}
use Rattle.ow_worker.proofs.Carried.{carried_turns, others_both, performs_within, run_turned}
use Rattle.ow_worker.proofs.runs.carry.Goals as goal

pub returns-in-Up-clause-turned : goal.returns-in-Up-clause-turned
returns-in-Up-clause-turned g c =
    run_turned (g.R.Runner.gives c.args.runner.now) (g.R.Runner.tally c.args.runner.now) (g.R.Runner.tally c.perform.new.runner) (g.C.Clock.tells c.args.clock.now) c.args.opened c.args.order c.args.notes.now.notes c.perform.new.notes.notes
    (view_of c.args.pass.now) (view_of c.perform.new.pass) (view_of c.make_ready.new.pass) c.perform.result c.in-Up.ensures.ready.1 (performs_within (g.C.Clock.tells c.args.clock.now) c.args.opened _ _ _ _ _ _ c.in-Up.ensures.runner c.perform.ensures.runner.steady c.perform.ensures.performs)

pub returns-in-Early-clause-turned : goal.returns-in-Early-clause-turned
returns-in-Early-clause-turned g c =
    let refused : RefusesCode (g.R.Runner.gives c.args.runner.now) (g.R.Runner.tally c.args.runner.now) (g.R.Runner.tally c.settle.new.runner) c.args.order.kind c.args.order.code c.in-Early.reply = refused_on (g.R.Runner.tally c.settle.new.runner) c.args.order.kind c.args.order.code c.in-Early.reply c.in-Early.ensures.runner.steady c.settle.ensures.runner.steady.later c.in-Early.ensures.ready.1 in
    run_turned (g.R.Runner.gives c.args.runner.now) (g.R.Runner.tally c.args.runner.now) (g.R.Runner.tally c.settle.new.runner) (g.C.Clock.tells c.args.clock.now) c.args.opened c.args.order c.args.notes.now.notes c.settle.new.notes.notes
    (view_of c.args.pass.now) (view_of c.settle.new.pass) (view_of c.make_ready.new.pass) c.settle.result c.in-Early.ensures.ready.2 (carried_turns c.settle.result (record {
      reply = c.in-Early.reply;
      replies = refused.1 c.args.order.params;
      opened = c.args.notes.now.notes;
      opens = inr (refl, refused, none_behind (g.R.Runner.tally c.args.runner.now) (g.R.Runner.tally c.make_ready.new.runner) (g.R.Runner.tally c.settle.new.runner) c.in-Early.ensures.runner.ran c.settle.ensures.runner.ran);
      settles = c.settle.ensures.settled;
    }))

pub returns-in-Up-clause-others : goal.returns-in-Up-clause-others
returns-in-Up-clause-others g c = others_both c.args.order.slot (view_of c.args.pass.now) (view_of c.make_ready.new.pass) (view_of c.perform.new.pass) c.in-Up.ensures.others c.perform.ensures.others

pub returns-in-Early-clause-others : goal.returns-in-Early-clause-others
returns-in-Early-clause-others g c = others_both c.args.order.slot (view_of c.args.pass.now) (view_of c.make_ready.new.pass) (view_of c.settle.new.pass) c.in-Early.ensures.others c.settle.ensures.others

pub perform-requires-clause-started : goal.perform-requires-clause-started
perform-requires-clause-started g c =
    still_started c.args.order.start (g.R.Runner.gives c.args.runner.now) (g.R.Runner.gives c.make_ready.new.runner) (g.R.Runner.tally c.args.runner.now) (g.R.Runner.tally c.make_ready.new.runner)
    c.args.order.kind c.in-Up.ensures.runner.steady c.in-Up.ensures.ready.0

pub returns-in-Up-clause-runner : goal.returns-in-Up-clause-runner
returns-in-Up-clause-runner g c = steady_trans c.in-Up.ensures.runner.steady c.perform.ensures.runner.steady

pub returns-in-Early-clause-runner : goal.returns-in-Early-clause-runner
returns-in-Early-clause-runner g c = steady_trans c.in-Early.ensures.runner.steady c.settle.ensures.runner.steady
