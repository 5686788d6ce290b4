-- Which orders a board of 512 slots can take.
use Rattle.std.specs.Prelude.{◌<◌, ◌≤◌, ℕ, length}
use Rattle.std.specs.List.{AllByRecursion}
use Rattle.ow_floor.specs.declared.answers.Order.{Order}
use Rattle.ow_floor.specs.declared.answers.Order.TheVariants as orders

-- the number of a slot of the greatest pool, and a generation of it
abbrev pub IsSlot : ℕ → ℕ → Type 0
IsSlot slot generation = (slot < 512) × (generation < 1073741824)

-- each slot of an order is one, with its generation, and no more are removed than there are
abbrev pub Fits : Order → Type 0
Fits (orders.Run order) = IsSlot order.slot order.generation
Fits (orders.Prewarm order) = IsSlot order.slot order.generation
Fits (orders.Remove containers) = AllByRecursion (λ c. IsSlot c.slot c.generation) containers × (length containers ≤ 512)
Fits (orders.Nothing why) = Unit {0}
