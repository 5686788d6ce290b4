-- The states of a slot, and what each event makes of them.
use Rattle.std.specs.Prelude.{◌≡◌, ◌==◌, ◌+◌, ◌<◌, ◌&&◌, ◌||◌, ℕ, Bool, true, false, not, Option, Some, None, is_none, if◌then◌else◌, nat_lt}
use Rattle.ow_traits.specs.declared.replies.Kind.{Kind}
use Rattle.ow_entity.specs.declared.bounds.TheConstants.{LEAST_MEMORY, MOST_MEMORY}
use Rattle.ow_entity.specs.Bounds.{IsBetween}
use Rattle.ow_slots.specs.declared.keys.Key.{Key}
use Rattle.ow_slots.specs.declared.keys.Start.{Start}
use Rattle.ow_slots.specs.declared.keys.Start.TheVariants as starts
use Rattle.ow_slots.specs.declared.states.TheConstants.{GREATEST_GENERATION}
use Rattle.ow_slots.specs.declared.states.Work.{Work}
use Rattle.ow_slots.specs.declared.states.State.{State}
use Rattle.ow_slots.specs.declared.states.State.TheVariants.{Vacant, Opening, Prewarmed, Busy, Idle, Closing}
use Rattle.ow_slots.specs.declared.states.Slot.{Slot}

-- the memory that a state holds: none where its container is gone
abbrev pub state_memory : State → ℕ
state_memory Vacant = 0
state_memory (Opening run kind memory) = memory
state_memory (Prewarmed kind memory) = memory
state_memory (Busy w) = if w.gone then 0 else w.key.memory
state_memory (Idle key last_used) = key.memory
state_memory (Closing memory) = memory

abbrev pub is_cold : Start → Bool
is_cold starts.Cold = true
is_cold start = false

abbrev pub is_warm : Start → Bool
is_warm starts.Warm = true
is_warm start = false

-- a state has this run, which may still begin: a prewarming, or a start that isn't warm and hasn't begun
abbrev pub awaits : ℕ → State → Bool
awaits run (Opening r kind memory) = r == run
awaits run (Busy w) = not (is_warm w.start) && (is_none w.begun && (w.run == run))
awaits run state = false

-- a state is busy with this run
abbrev pub runs : ℕ → State → Bool
runs run (Busy w) = w.run == run
runs run state = false

-- a state has this run, busy or opening
abbrev pub holds : ℕ → State → Bool
holds run (Opening r kind memory) = r == run
holds run (Busy w) = w.run == run
holds run state = false

-- there is a container that can be reported as gone
abbrev pub takes_gone : State → Bool
takes_gone Vacant = false
takes_gone (Opening run kind memory) = false
takes_gone (Busy w) = not w.gone
takes_gone state = true

-- the moment at which the run was recorded as overrun
abbrev pub recorded_of : State → Option ℕ
recorded_of (Busy w) = w.recorded
recorded_of state = None

abbrev pub is_idle : State → Bool
is_idle (Idle key last_used) = true
is_idle state = false

abbrev pub is_prewarmed : State → Bool
is_prewarmed (Prewarmed kind memory) = true
is_prewarmed state = false

abbrev pub is_vacant : State → Bool
is_vacant Vacant = true
is_vacant state = false

abbrev pub begun_state : ℕ → State → State
begun_state at (Opening run kind memory) = Prewarmed kind memory
begun_state at (Busy w) = Busy (record w { begun = Some at })
begun_state at state = state

-- an idle container only where the run gave an answer, and wasn't recorded as overrun before
abbrev pub answered_state : Bool → ℕ → State → State
answered_state alive at (Busy w) =
    if w.gone then Vacant
    else if alive && is_none w.recorded then Idle w.key at
    else Closing w.key.memory
answered_state alive at state = state

abbrev pub lost_state : State → State
lost_state (Opening run kind memory) = Closing memory
lost_state (Busy w) = if w.gone then Vacant else Closing w.key.memory
lost_state state = state

abbrev pub gone_state : State → State
gone_state (Busy w) = Busy (record w { gone = true })
gone_state state = Vacant

abbrev pub overrun_state : ℕ → State → State
overrun_state at (Busy w) = Busy (record w { recorded = Some at })
overrun_state at state = state

-- a container that is being removed holds its memory until it is gone
abbrev pub removed_state : State → State
removed_state (Idle key last_used) = Closing key.memory
removed_state (Prewarmed kind memory) = Closing memory
removed_state state = state

-- a run that starts
abbrev pub work_of : ℕ → Key → Start → ℕ → Work
work_of run key start at = record {
  run = run;
  key = key;
  start = start;
  at = at;
  recorded = None;
  begun = None;
  gone = false;
}

-- a slot with a run that starts: a new container has a new generation
abbrev pub assigned : ℕ → Key → Start → ℕ → Slot → Slot
assigned run key start at s = record {
  generation = s.generation + (if is_cold start then 1 else 0);
  state = Busy (work_of run key start at);
}

-- a slot with a container that is prewarmed, of a new generation
abbrev pub opened : ℕ → Kind → ℕ → Slot → Slot
opened run kind memory s = record { generation = s.generation + 1; state = Opening run kind memory }

-- a slot with another state
abbrev pub with_state : (State → State) → Slot → Slot
with_state f s = record s { state = f s.state }

-- whether a slot is vacant, and its generation can rise
abbrev pub can_open : Slot → Bool
can_open s = is_vacant s.state && nat_lt s.generation GREATEST_GENERATION

-- a slot is vacant, and its generation can rise
abbrev pub IsVacant : Slot → Type 0
IsVacant s = (is_vacant s.state ≡ true) × (s.generation < GREATEST_GENERATION)

-- a start fits a slot
abbrev pub StartFits : Start → Slot → Type 0
StartFits starts.Warm s = is_idle s.state ≡ true
StartFits starts.Prewarmed s = is_prewarmed s.state ≡ true
StartFits starts.Cold s = IsVacant s

-- a container that no run needs can be removed
abbrev pub CanGo : Slot → Type 0
CanGo s = (is_idle s.state || is_prewarmed s.state) ≡ true

abbrev pub IsUnrecorded : Slot → Type 0
IsUnrecorded s = recorded_of s.state ≡ None

-- the container of a slot, of this generation, can be reported as gone
abbrev pub goes : ℕ → Slot → Bool
goes generation s = (s.generation == generation) && takes_gone s.state

abbrev pub after_gone : ℕ → Slot → Slot
after_gone generation s = if goes generation s then with_state gone_state s else s

-- the memory of a slot's container is that of some action
abbrev pub IsMemory : ℕ → Type 0
IsMemory memory = IsBetween LEAST_MEMORY MOST_MEMORY memory

abbrev pub IsSized : State → Type 0
IsSized Vacant = Unit {0}
IsSized (Opening run kind memory) = IsMemory memory
IsSized (Prewarmed kind memory) = IsMemory memory
IsSized (Busy w) = IsMemory w.key.memory
IsSized (Idle key last_used) = IsMemory key.memory
IsSized (Closing memory) = IsMemory memory
