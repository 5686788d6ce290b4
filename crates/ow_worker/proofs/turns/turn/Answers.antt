use Rattle.std.proofs.Common.{inr, subst}
use Rattle.ow_floor.specs.declared.answers.Order.{Order}
use Rattle.ow_floor.specs.declared.answers.Order.TheVariants as orders
use Rattle.ow_worker.specs.Noted.{NextNoted}
use Rattle.ow_worker.proofs.turns.turn.Goals as goal

pub returns-in-Run-clause-turned : goal.returns-in-Run-clause-turned
returns-in-Run-clause-turned g c = inr (record {
  order = orders.Run c.in-Run.order;
  taken = c.take_order.new.notes.notes;
  next = subst (λ (o : Order). NextNoted (g.C.Clock.tells c.args.clock.now) c.args.notes.now.notes c.take_order.new.notes.notes o) c.in-Run.is c.in-Ok.ensures.order;
  follows = (c.carry.ensures.turned, c.carry.ensures.others);
})

pub returns-in-Prewarm-clause-turned : goal.returns-in-Prewarm-clause-turned
returns-in-Prewarm-clause-turned g c = inr (record {
  order = orders.Prewarm c.in-Prewarm.order;
  taken = c.take_order.new.notes.notes;
  next = subst (λ (o : Order). NextNoted (g.C.Clock.tells c.args.clock.now) c.args.notes.now.notes c.take_order.new.notes.notes o) c.in-Prewarm.is c.in-Ok.ensures.order;
  follows = (c.prewarm.ensures.warms, c.prewarm.ensures.others, c.prewarm.ensures.runner.ran);
})
