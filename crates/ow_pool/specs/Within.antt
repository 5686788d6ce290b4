-- For private clauses: tests of what placing relies on.
use Rattle.std.specs.Prelude.{◌&&◌, ℕ, Bool, true, nat_le}
use Rattle.ow_entity.specs.declared.bounds.TheConstants.{LEAST_MEMORY, MOST_MEMORY}
use Rattle.ow_slots.specs.declared.states.State.{State}
use Rattle.ow_slots.specs.declared.states.State.TheVariants.{Vacant, Opening, Prewarmed, Busy, Idle, Closing}

abbrev pub is_memory : ℕ → Bool
is_memory memory = nat_le LEAST_MEMORY memory && nat_le memory MOST_MEMORY

abbrev pub is_sized : State → Bool
is_sized Vacant = true
is_sized (Opening run kind memory) = is_memory memory
is_sized (Prewarmed kind memory) = is_memory memory
is_sized (Busy w) = is_memory w.key.memory
is_sized (Idle key last_used) = is_memory key.memory
is_sized (Closing memory) = is_memory memory
