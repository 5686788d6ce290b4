use Rattle.std.proofs.Common.{◌∙◌, ◌+◌, ◌≤◌, arith, refl}
use Rattle.std.proofs.lemmas.Bool.{ltb-false}
use Rattle.ow_tenant.proofs.QueueLaws.{LetsGo-more, LetsGo-none, popped}
use Rattle.ow_tenant.proofs.queue.drop_old.Goals as goal

pub loop-first-init : goal.loop-first-init
loop-first-init c = record {
  lets_go = LetsGo-none _ _;
  capacity = refl;
  fewer = omega arith;
}

pub loop-first-preserved : goal.loop-first-preserved
loop-first-preserved c =
    let first = c.in-Some.first.now in
    let old : first + 60000 ≤ c.args.now = omega (arith, ltb-false) in
    let gone = popped c.loop-first.moments.items c.pop_front.new.self.items first (omega (arith, c.in-Some.ensures.variant.0 refl)) c.in-Some.ensures.lookup c.pop_front.ensures.rest in
    record {
      lets_go = LetsGo-more c.args.now _ c.loop-first.moments.items c.pop_front.new.self.items first c.loop-first.invariant.lets_go gone old;
      capacity = c.pop_front.ensures.capacity ∙ c.loop-first.invariant.capacity;
      fewer = omega arith;
    }
