use Rattle.std.proofs.Common.{◌≡◌, ℕ, ◌-◌, ◌<◌, ◌≤◌, false, get_or}
use lib.ListN.{take}
use Rattle.std.specs.Vec.{vec_capacity}
use Rattle.std.specs.Mem.Slots.{slots_items, slots_filled, slots_len}
use Rattle.std.specs.Mem.Slots.Ownership.{Filled}
use Rattle.ow_board.proofs.close.lifted.Given as goal

abbrev pub invariant-loop-i : goal.invariant-loop-i
invariant-loop-i g l =
    let values = slots_items l.initial.closed.slots in
    (slots_len l.closed.slots ≡ l.n) × (l.i ≤ l.n) × (slots_items l.closed.slots ≡ values)
    × (l.slots.items ≡ take l.i values) × (l.n ≤ vec_capacity l.slots)
    × Filled (slots_filled l.closed.slots) l.i l.n
    × ((k : ℕ) → k < l.i → get_or (slots_filled l.closed.slots) k false ≡ false)

abbrev pub decreases-loop-i : goal.decreases-loop-i
decreases-loop-i g l = l.n - l.i
