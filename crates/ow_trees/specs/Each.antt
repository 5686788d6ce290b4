-- What is said of each of some items, and of what was before it.
use Rattle.std.specs.Prelude.{◌++◌, [], ◌∷◌}
use Rattle.ow_floor.specs.Trace.{Item, Trace}

-- each of these items over the items before it and a trace; the newest first
abbrev pub AreEach : (Item → Trace → Type 0) → Trace → Trace → Type 0
AreEach P [] T = Unit {0}
AreEach P (item ∷ items) T = P item (items ++ T) × AreEach P items T
