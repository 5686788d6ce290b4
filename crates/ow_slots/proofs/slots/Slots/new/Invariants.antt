use Rattle.std.proofs.Common.{◌≡◌, replicate}
use Rattle.ow_slots.specs.Slots.{vacant_slot}
use Rattle.ow_slots.proofs.slots.Slots.new.Given as goal

abbrev pub invariant-loop : goal.invariant-loop
invariant-loop l = l.slots.items ≡ replicate l.counter vacant_slot
