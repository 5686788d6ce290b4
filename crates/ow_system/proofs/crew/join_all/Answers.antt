use Rattle.std.proofs.Common.{rules, arith}
use Rattle.ow_threads.proofs.Joins.{midway_start}
use Rattle.ow_system.proofs.Joins.{midway_one}
use Rattle.ow_system.proofs.crew.join_all.Goals as goal

pub loop-slot-init : goal.loop-slot-init
loop-slot-init g c =
    let rest = c.into_iter-slot-iterator.ensures.into_iter_gives in
    record {
      numbers = search rules;
      slots = search rules;
      dones = search rules;
      room_of_slots = search rules;
      room_of_dones = search rules;
      midway = rw (rest.0, c.requires.slots.0, c.requires.dones.0) (midway_start g.T.Task.ends c.args.from _);
    }

pub loop-slot-preserved : goal.loop-slot-preserved
loop-slot-preserved g c =
    let was = c.loop-slot.invariant in
    let step = c.in-Some.ensures.steps in
    record {
      numbers = omega (arith, step.1, was.numbers);
      slots = omega (arith, c.push_reserved.ensures.len, was.slots);
      dones = omega (arith, c.join.ensures.len, was.dones);
      room_of_slots = omega (arith, c.push_reserved.ensures.capacity, was.room_of_slots);
      room_of_dones = omega (arith, c.join.ensures.capacity, was.room_of_dones);
      midway =
          rw (c.push_reserved.ensures.items, c.join.ensures.slot)
          (midway_one g.T.Task.ends _ _ _ _ _ _ _ _ (rw step.0 at was.midway) c.join.ensures.done);
    }
