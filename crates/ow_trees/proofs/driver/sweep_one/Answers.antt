use Rattle.std.proofs.Common.{ap, length}
use Rattle.ow_floor.specs.Calls.{overrun_first}
use Rattle.ow_trees.proofs.Following.{after_grows, after_moved, next_told}
use Rattle.ow_trees.proofs.driver.sweep_one.Goals as goal

pub returns-clause-ok : goal.returns-clause-ok
returns-clause-ok g c =
    after_grows (g.L.Lookup.found c.args.rows.now) c.args.at (λ T. overrun_first c.args.at T) c.last_next-next.result c.args.floor.now.now c.overrun.new.self.now c.follow.new.floor.now
    c.in_ok-late.ensures.ok c.in_ok-follow.ensures.ok
    (λ T st. next_told c.args.moves.now c.overrun.new.moves (overrun_first c.args.at T) (length c.items-before.result.now) c.last_next-next.result (ap length c.items-before.ensures) (c.in_ok-late.ensures.moved T st) c.last_next-next.ensures)

pub returns-clause-moved : goal.returns-clause-moved
returns-clause-moved g c =
    after_moved (g.L.Lookup.found c.args.rows.now) c.args.at (λ T. overrun_first c.args.at T) c.last_next-next.result c.args.floor.now.now c.overrun.new.self.now c.args.moves.now c.overrun.new.moves c.follow.new.moves
    c.in_ok-late.ensures.ok c.in_ok-late.ensures.moved c.in_ok-follow.ensures.moved
    (λ T st. next_told c.args.moves.now c.overrun.new.moves (overrun_first c.args.at T) (length c.items-before.result.now) c.last_next-next.result (ap length c.items-before.ensures) (c.in_ok-late.ensures.moved T st) c.last_next-next.ensures)
