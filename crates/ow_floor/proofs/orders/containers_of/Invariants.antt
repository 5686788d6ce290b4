use Rattle.std.proofs.Common.{◌≡◌, take}
use Rattle.ow_floor.specs.View.{containers_of}
use Rattle.ow_floor.proofs.orders.containers_of.Given as goal

abbrev pub invariant-loop-slot : goal.invariant-loop-slot
invariant-loop-slot l = l.containers.items ≡ containers_of (take l.slot-index l.numbers) l.slots
