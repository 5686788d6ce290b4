-- How many events may still come of what slots hold.
use Rattle.std.specs.Prelude.{◌+◌, ℕ, Bool, List, sum_by, if◌then◌else◌, not, ◌&&◌, is_none}
use Rattle.ow_slots.specs.declared.states.State.{State}
use Rattle.ow_slots.specs.declared.states.State.TheVariants.{Vacant, Opening, Prewarmed, Busy, Idle, Closing}
use Rattle.ow_slots.specs.declared.states.Slot.{Slot}
use Rattle.ow_slots.specs.declared.states.Work.{Work}
use Rattle.ow_slots.specs.State.{is_warm}
use Rattle.ow_slot_laws.specs.Life.{Event, Ran, Prewarming, Begun, Answered, Lost, Gone}

-- whether a run may still begin
abbrev pub may_begin : Work → Bool
may_begin w = not (is_warm w.start) && is_none w.begun

-- how many events may still come of a state: that its run begins, that it ends, that its container is gone
abbrev pub owed_by : State → ℕ
owed_by Vacant = 0
owed_by (Opening run kind memory) = 3
owed_by (Prewarmed kind memory) = 1
owed_by (Busy w) = 1 + (if may_begin w then 1 else 0) + (if w.gone then 0 else 1)
owed_by (Idle key last_used) = 1
owed_by (Closing memory) = 1

-- and of all slots
abbrev pub owed : List Slot → ℕ
owed slots = sum_by (λ s. owed_by s.state) slots

-- by how much an event raises it at most
abbrev pub rise_of : Event → ℕ
rise_of (Ran slot run key start at) = 3
rise_of (Prewarming slot run kind memory) = 3
rise_of event = 0

-- by how much an event that fits lowers it at least: each that was owed is owed no more
abbrev pub fall_of : Event → ℕ
fall_of (Begun run at) = 1
fall_of (Answered run alive at) = 1
fall_of (Lost run) = 1
fall_of (Gone slot generation) = 1
fall_of event = 0
