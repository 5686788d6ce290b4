-- What is required of the arguments of events that the office itself makes.
use Rattle.std.specs.Prelude.{◌≡◌, true}
use Rattle.ow_entity.specs.Given.{AreGiven}
use Rattle.ow_keep.specs.Allowed.{is_note}
use Rattle.ow_decide.specs.declared.events.Event.{Event}
use Rattle.ow_decide.specs.declared.events.Event.TheVariants as events

-- the drafts of a deployment are such as bodies give, and the note of a fire may be kept: its key has 1 to 1,024 bytes, and its value is at
-- most the greatest moment
abbrev pub IsGivenEvent : Event → Type 0
IsGivenEvent (events.Deployed drafts) = AreGiven drafts
IsGivenEvent (events.Fired trigger params note) = is_note note ≡ true
IsGivenEvent event = Unit {0}
