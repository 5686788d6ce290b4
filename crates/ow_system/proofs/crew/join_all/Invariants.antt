use Rattle.std.proofs.Common.{◌≡◌, ◌≤◌, ◌+◌, vec_capacity, vec_len}
use Rattle.std.specs.Vec.Iter.{into_iter_items, into_iter_len}
use Rattle.ow_threads.proofs.Joins.{Midway}
use Rattle.ow_system.proofs.crew.join_all.Given as goal

abbrev pub invariant-loop-slot : goal.invariant-loop-slot
invariant-loop-slot g l = record {
  numbers : l.number + into_iter_len l.slot-iterator ≡ vec_len l.fn.all;
  slots : vec_len l.slots ≡ l.number;
  dones : vec_len l.dones ≤ l.number;
  room_of_slots : vec_len l.fn.all ≤ vec_capacity l.slots;
  room_of_dones : vec_len l.fn.all ≤ vec_capacity l.dones;
  midway : Midway g.T.Task.ends l.from l.number l.fn.all.items (into_iter_items l.slot-iterator) l.slots.items l.dones.items;
}
