use Rattle.std.proofs.Common.{◌≡◌, map, take}
use Rattle.ow_slots.specs.declared.states.State.TheVariants.{Vacant}
use Rattle.ow_slots.specs.State.{with_state}
use Rattle.ow_slots.proofs.slots.vacant_slots.Given as goal

abbrev pub invariant-loop-slot : goal.invariant-loop-slot
invariant-loop-slot l = l.vacant.items ≡ map (with_state (λ state. Vacant)) (take l.slot-index l.slots)
