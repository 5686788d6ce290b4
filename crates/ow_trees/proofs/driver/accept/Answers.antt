use Rattle.ow_floor.specs.Calls.{accept_items}
use Rattle.ow_floor.proofs.Results.{on_more}
use Rattle.ow_trees.proofs.Following.{after_grows, after_moved}
use Rattle.ow_trees.proofs.driver.accept.Goals as goal

pub returns-clause-ok : goal.returns-clause-ok
returns-clause-ok g c = on_more c.follow.result _ _ (λ second.
    after_grows (g.L.Lookup.found c.args.rows.now) c.args.at (λ T. accept_items c.args.at c.args.plan) c.in_ok-next.next c.args.floor.now.now c.accept_one.new.floor.now c.follow.new.floor.now
    c.in_ok-next.ensures.ok second c.in_ok-next.ensures.next) c.follow.ensures.ok

pub returns-clause-moved : goal.returns-clause-moved
returns-clause-moved g c = on_more c.follow.result _ _ (λ second.
    after_moved (g.L.Lookup.found c.args.rows.now) c.args.at (λ T. accept_items c.args.at c.args.plan) c.in_ok-next.next c.args.floor.now.now c.accept_one.new.floor.now c.args.moves.now c.accept_one.new.moves c.follow.new.moves
    c.in_ok-next.ensures.ok c.in_ok-next.ensures.moved second c.in_ok-next.ensures.next) c.follow.ensures.moved
