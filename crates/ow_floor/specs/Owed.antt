-- How many entries that take no memory a trace still owes the book: of each run that a slot has, its loss, and its beginning unless it has
-- begun or starts warm; of each container, its going.
use Rattle.std.specs.Prelude.{◌+◌, ℕ, [], ◌∷◌}
use Rattle.ow_slot_laws.specs.Owed as lives
use Rattle.ow_floor.specs.View.{Shown}
use Rattle.ow_floor.specs.Trace.{Trace, Item, Ordered, Prewarming, shown}

-- over the slots of a floor
abbrev pub owed_of : Shown → ℕ
owed_of v = lives.owed v.slots

abbrev pub owed : Trace → ℕ
owed T = owed_of (shown T)

-- by how much an item raises it at most
abbrev pub rise : Item → ℕ
rise (Ordered run key) = 3
rise (Prewarming order at) = 3
rise item = 0

abbrev pub rises : Trace → ℕ
rises [] = 0
rises (item ∷ T) = rise item + rises T
