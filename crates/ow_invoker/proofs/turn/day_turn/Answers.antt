use Rattle.std.proofs.Common.{refl, subst}
use Rattle.ow_invoker.specs.Turns.{Turns}
use Rattle.ow_invoker.proofs.Orders.{turned, unordered}
use Rattle.ow_invoker.proofs.Turning.{next_commits}
use Rattle.ow_invoker.proofs.turn.day_turn.Goals as goal

pub returns-in-Ok-next-clause-turns : goal.returns-in-Ok-next-clause-turns
returns-in-Ok-next-clause-turns g c =
    subst (λ s. Turns g.P.Keeper.telling (g.R.Runner.gives c.args.runner.now) (g.R.Runner.tally c.args.runner.now) (g.R.Runner.tally c.follow.new.runner) c.args.hall.now c.follow.new.hall c.args.at s
    c.follow.new.shelf c.follow.result) c.make_room.ensures
    (turned g.P.Keeper.telling c.args.hall.now c.args.at (g.R.Runner.gives c.args.runner.now) (g.R.Runner.tally c.args.runner.now) (g.R.Runner.tally c.follow.new.runner) c.next.new.self
    c.follow.new.hall c.make_room.new.self c.follow.new.shelf c.in-Ok-next.order c.in-Ok-next.ensures c.follow.result c.follow.ensures.turns)

pub returns-in-Err-clause-turns : goal.returns-in-Err-clause-turns
returns-in-Err-clause-turns g c =
    unordered g.P.Keeper.telling c.args.hall.now c.args.at (g.R.Runner.gives c.args.runner.now) (g.R.Runner.tally c.args.runner.now) (g.R.Runner.tally c.args.runner.now) c.next.new.self
    c.args.shelf.now c.make_room.new.self _ c.make_room.ensures refl (next_commits g.P.Keeper.telling c.args.hall.now c.args.at) c.in-Err.ensures
