use Rattle.std.proofs.Common.{rules, ◌≡◌, ◌∙◌, [], arith, sym}
use Rattle.std.proofs.lemmas.List.{map-append, nil_from_length}
use Rattle.std.specs.Vec.Iter.{into_iter_items}
use Rattle.ow_threads.proofs.Joins.{midway_end, midway_none, midway_some, midway_start}
use Rattle.ow_threads.proofs.refusing_spawner.RefusingSpawnerSpawner.join.Goals as goal

pub loop-slot-init : goal.loop-slot-init
loop-slot-init g c =
    let rest = c.into_iter-slot-iterator.ensures.into_iter_gives in
    let taken = c.replace-all.ensures.value in
    record {
      numbers = search rules;
      slots = search rules;
      dones = search rules;
      room_of_slots = search rules;
      room_of_dones = search rules;
      midway = rw (rest.0, taken, c.in_ok-slots.ensures.items, c.in_ok-dones.ensures.items) (midway_start g.T.Task.ends c.args.from _);
    }

pub loop-slot-preserved-in-Some-task : goal.loop-slot-preserved-in-Some-task
loop-slot-preserved-in-Some-task g c =
    let was = c.loop-slot.invariant in
    let step = c.in-Some.ensures.steps in
    record {
      numbers = omega (arith, step.1, was.numbers);
      slots = omega (arith, c.push_reserved.ensures.len, was.slots);
      dones = omega (arith, c.push_reserved-in-Some-task.ensures.len, was.dones);
      room_of_slots = omega (arith, c.push_reserved.ensures.capacity, was.room_of_slots);
      room_of_dones = omega (arith, c.push_reserved-in-Some-task.ensures.capacity, was.room_of_dones);
      midway =
          rw (c.push_reserved.ensures.items, c.push_reserved-in-Some-task.ensures.items, map-append, c.slot_after-slot.ensures.slot)
          (midway_some g.T.Task.ends _ _ _ _ _ _ _ _ _ (rw step.0 at was.midway) (sym c.slot_after-slot.ensures.task ∙ c.in-Some-task.is) c.run.ensures);
    }

pub loop-slot-preserved : goal.loop-slot-preserved
loop-slot-preserved g c =
    let was = c.loop-slot.invariant in
    let step = c.in-Some.ensures.steps in
    record {
      numbers = omega (arith, step.1, was.numbers);
      slots = omega (arith, c.push_reserved.ensures.len, was.slots);
      dones = omega (arith, was.dones);
      room_of_slots = omega (arith, c.push_reserved.ensures.capacity, was.room_of_slots);
      room_of_dones = was.room_of_dones;
      midway =
          rw (c.push_reserved.ensures.items, map-append, c.slot_after-slot.ensures.slot)
          (midway_none g.T.Task.ends _ _ _ _ _ _ _ (rw step.0 at was.midway) (sym c.slot_after-slot.ensures.task ∙ c.in_default.is));
    }

pub returns-clause-joined : goal.returns-clause-joined
returns-clause-joined g c =
    let none : into_iter_items c.loop-slot.slot-iterator ≡ [] = nil_from_length _ (omega (arith, c.in-None.ensures.steps.0, c.loop-slot.slot-iterator.rest.ok.0)) in
    midway_end g.T.Task.ends _ c.loop-slot.number _ _ _ (rw none at c.loop-slot.invariant.midway)
