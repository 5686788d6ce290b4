-- The drain of a book.
use Rattle.std.specs.Prelude.{◌&&◌, ◌||◌, ℕ, Bool, true, false, [], ◌∷◌, Option, Some, None, cond, length, not}
use Rattle.ow_floor.specs.declared.answers.Drain.TheVariants as drains
use Rattle.ow_decide.specs.declared.events.Event.{Event}
use Rattle.ow_decide.specs.declared.events.Event.TheVariants as events
use Rattle.ow_decide.specs.declared.events.Told.{Told}
use Rattle.ow_decide.specs.declared.events.Told.TheVariants as told
use Rattle.ow_hall.specs.declared.entry.Entry.{Entry}
use Rattle.ow_hall.specs.History.{History}

abbrev pub asks : Event → Bool
asks (events.Asked r) = true
asks event = false

abbrev pub asks_drain : Event → Bool
asks_drain events.Drain = true
asks_drain event = false

abbrev pub tells_drained : Told → Bool
tells_drained (told.Drain (drains.Drained n)) = true
tells_drained t = false

-- a request
abbrev pub is_asked : Entry → Bool
is_asked e = asks e.event

-- a drain, whatever it answered
abbrev pub is_drain : Entry → Bool
is_drain e = asks_drain e.event

-- a drain that answered that all is drained
abbrev pub is_drained : Entry → Bool
is_drained e = is_drain e && tells_drained e.answer

-- a book has such a drain, and no request after it
abbrev pub ends_drained : History → Bool
ends_drained [] = false
ends_drained (e ∷ B) = is_drained e || (not (is_asked e) && ends_drained B)

-- the place of the last entry of a kind
abbrev pub last_place : (Entry → Bool) → History → Option ℕ
last_place test [] = None
last_place test (e ∷ B) = cond (test e) (Some (length B)) (last_place test B)
