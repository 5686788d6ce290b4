-- What happens to slots, and the state of each slot by the last order that names it.
use Rattle.std.specs.Prelude.{◌==◌, ◌+◌, ◌&&◌, ◌||◌, ℕ, zero, suc, Bool, true, false, not, List, [], ◌∷◌, Option, Some, None, is_none, if◌then◌else◌}
use Rattle.std.specs.List.{list_any}
use Rattle.ow_traits.specs.declared.replies.Kind.{Kind}
use Rattle.ow_slots.specs.declared.keys.Key.{Key}
use Rattle.ow_slots.specs.declared.keys.Start.{Start}
use Rattle.ow_slots.specs.declared.states.State.{State}
use Rattle.ow_slots.specs.declared.states.State.TheVariants.{Vacant, Opening, Prewarmed, Busy, Idle, Closing}
use Rattle.ow_slots.specs.declared.states.Slot.{Slot}
use Rattle.ow_slots.specs.State.{is_cold, is_warm}
use Rattle.ow_slots.specs.Slots.{memory_held}

-- one thing that happened; what was refused is none
pub data Event : Type 0 where
  -- a run of an action is ordered in a slot
  Ran : (slot run : ℕ) (key : Key) (start : Start) (at : ℕ) → Event
  -- a container is ordered ahead of any run of an action
  Prewarming : (slot run : ℕ) (kind : Kind) (memory : ℕ) → Event
  -- the removal of containers is ordered
  Removed : (slots : List ℕ) → Event
  -- the container of a run is initialised
  Begun : (run at : ℕ) → Event
  -- a run is answered; whether its container can run again
  Answered : (run : ℕ) (alive : Bool) (at : ℕ) → Event
  Lost : (run : ℕ) → Event
  -- the container of this generation is gone
  Gone : (slot generation : ℕ) → Event
  -- the activation of a run is recorded as overrun
  Overran : (run at : ℕ) → Event
  -- everything starts again, without containers
  Reopened : Event

-- the newest first
abbrev pub Life : Type 0
Life = List Event

pub record RunOrder : Type 0 where
  pub run : ℕ
  pub key : Key
  pub start : Start
  pub at : ℕ

pub record PrewarmOrder : Type 0 where
  pub run : ℕ
  pub kind : Kind
  pub memory : ℕ

-- what is ordered of one slot
pub data Order : Type 0 where
  Run : (order : RunOrder) → Order
  Prewarm : (order : PrewarmOrder) → Order
  Remove : Order

abbrev pub run_order : ℕ → Key → Start → ℕ → Order
run_order run key start at = Run (record { run = run; key = key; start = start; at = at })

abbrev pub prewarm_order : ℕ → Kind → ℕ → Order
prewarm_order run kind memory = Prewarm (record { run = run; kind = kind; memory = memory })

abbrev pub is_number : ℕ → ℕ → Bool
is_number n m = m == n

abbrev pub is_among : ℕ → List ℕ → Bool
is_among n slots = list_any (is_number n) slots

abbrev pub last_after : Event → ℕ → Option Order → Option Order
last_after (Ran slot run key start at) n last = if slot == n then Some (run_order run key start at) else last
last_after (Prewarming slot run kind memory) n last = if slot == n then Some (prewarm_order run kind memory) else last
last_after (Removed slots) n last = if is_among n slots then Some Remove else last
last_after Reopened n last = None
last_after event n last = last

-- the last order since the last reopening that names the slot
abbrev pub last_order : Life → ℕ → Option Order
last_order [] n = None
last_order (event ∷ L) n = last_after event n (last_order L n)

abbrev pub since_after : Event → ℕ → Life → Life
since_after (Ran slot run key start at) n later = if slot == n then [] else Ran slot run key start at ∷ later
since_after (Prewarming slot run kind memory) n later = if slot == n then [] else Prewarming slot run kind memory ∷ later
since_after (Removed slots) n later = if is_among n slots then [] else Removed slots ∷ later
since_after Reopened n later = []
since_after event n later = event ∷ later

-- what came after that order
abbrev pub since : Life → ℕ → Life
since [] n = []
since (event ∷ L) n = since_after event n (since L n)

abbrev pub gone_after : Event → ℕ → Bool → Bool
gone_after (Gone slot generation) n b = if slot == n then true else b
gone_after event n b = b

-- whether the container of the slot is gone
abbrev pub is_gone : ℕ → Life → Bool
is_gone n [] = false
is_gone n (event ∷ L) = gone_after event n (is_gone n L)

abbrev pub lost_after : Event → ℕ → Bool → Bool
lost_after (Lost r) run b = if run == r then true else b
lost_after event run b = b

-- whether the run was lost
abbrev pub is_lost : ℕ → Life → Bool
is_lost run [] = false
is_lost run (event ∷ L) = lost_after event run (is_lost run L)

-- whether the container can run again, and the moment
pub record Reply : Type 0 where
  pub alive : Bool
  pub at : ℕ

abbrev pub reply_after : Event → ℕ → Option Reply → Option Reply
reply_after (Answered r alive at) run old = if run == r then Some (record { alive = alive; at = at }) else old
reply_after event run old = old

-- the answer to the run
abbrev pub reply_to : ℕ → Life → Option Reply
reply_to run [] = None
reply_to run (event ∷ L) = reply_after event run (reply_to run L)

abbrev pub begun_after : Event → ℕ → Option ℕ → Option ℕ
begun_after (Begun r at) run old = if run == r then Some at else old
begun_after event run old = old

-- the moment at which the container of the run was initialised
abbrev pub begun_at : ℕ → Life → Option ℕ
begun_at run [] = None
begun_at run (event ∷ L) = begun_after event run (begun_at run L)

abbrev pub overran_after : Event → ℕ → Option ℕ → Option ℕ
overran_after (Overran r at) run old = if run == r then Some at else old
overran_after event run old = old

-- the moment at which the activation of the run was recorded as overrun
abbrev pub overran_at : ℕ → Life → Option ℕ
overran_at run [] = None
overran_at run (event ∷ L) = overran_after event run (overran_at run L)

abbrev pub generation_after : Event → ℕ → ℕ → ℕ
generation_after (Ran slot run key start at) n g = if (slot == n) && is_cold start then g + 1 else g
generation_after (Prewarming slot run kind memory) n g = if slot == n then g + 1 else g
generation_after event n g = g

-- the number of new containers that were ordered in the slot, over reopenings too
abbrev pub generation_of : Life → ℕ → ℕ
generation_of [] n = 0
generation_of (event ∷ L) n = generation_after event n (generation_of L n)

abbrev pub memory_after : Event → ℕ → ℕ → ℕ
memory_after (Ran slot run key start at) n m = if (slot == n) && is_cold start then key.memory else m
memory_after (Prewarming slot run kind memory) n m = if slot == n then memory else m
memory_after event n m = m

-- the memory of the last of these
abbrev pub memory_of : Life → ℕ → ℕ
memory_of [] n = 0
memory_of (event ∷ L) n = memory_after event n (memory_of L n)

-- a run in its container; a warm container has begun before
abbrev pub busy_state : RunOrder → Bool → Option ℕ → Option ℕ → State
busy_state o gone recorded begun = Busy (record {
  run = o.run;
  key = o.key;
  start = o.start;
  at = o.at;
  recorded = recorded;
  begun = if is_warm o.start then None else begun;
  gone = gone;
})

-- idle where the run gave an answer, and wasn't recorded as overrun before; else the container is removed
abbrev pub replied_state : RunOrder → ℕ → Reply → Option ℕ → State
replied_state o memory reply recorded = if reply.alive && is_none recorded then Idle o.key reply.at else Closing memory

-- after the order of a run: whether its container is gone, its answer, whether it was lost, when it was recorded as
-- overrun and when it began
abbrev pub run_state : RunOrder → ℕ → Bool → Option Reply → Bool → Option ℕ → Option ℕ → State
run_state o memory true None false recorded begun = busy_state o true recorded begun
run_state o memory true (Some reply) lost recorded begun = Vacant
run_state o memory true None true recorded begun = Vacant
run_state o memory false None false recorded begun = busy_state o false recorded begun
run_state o memory false (Some reply) lost recorded begun = replied_state o memory reply recorded
run_state o memory false None true recorded begun = Closing memory

-- after the order of a container ahead: whether it is gone, whether its run was lost, when it began
abbrev pub prewarm_state : PrewarmOrder → ℕ → Bool → Bool → Option ℕ → State
prewarm_state o memory true lost begun = Vacant
prewarm_state o memory false true begun = Closing memory
prewarm_state o memory false false (Some at) = Prewarmed o.kind o.memory
prewarm_state o memory false false None = Opening o.run o.kind o.memory

-- after the order of a removal: whether the container is gone
abbrev pub remove_state : ℕ → Bool → State
remove_state memory true = Vacant
remove_state memory false = Closing memory

-- the state of a slot by its last order, its memory, and what came after that order
abbrev pub state_by : Option Order → ℕ → ℕ → Life → State
state_by None n memory later = Vacant
state_by (Some (Run o)) n memory later =
    run_state o memory (is_gone n later) (reply_to o.run later) (is_lost o.run later) (overran_at o.run later) (begun_at o.run later)
state_by (Some (Prewarm o)) n memory later = prewarm_state o memory (is_gone n later) (is_lost o.run later) (begun_at o.run later)
state_by (Some Remove) n memory later = remove_state memory (is_gone n later)

abbrev pub state_of : Life → ℕ → State
state_of L n = state_by (last_order L n) n (memory_of L n) (since L n)

abbrev pub slot_of : Life → ℕ → Slot
slot_of L n = record { generation = generation_of L n; state = state_of L n }

-- the values of a function at n successive numbers, from k on
unfoldable pub table : {X : Type 0} → (ℕ → X) → ℕ → ℕ → List X
table f k zero = []
table f k (suc n) = f k ∷ table f (suc k) n

-- the first `count` slots
abbrev pub slots_of : Life → ℕ → List Slot
slots_of L count = table (slot_of L) 0 count

-- whether a state holds its slot's memory
abbrev pub is_held : State → Bool
is_held Vacant = false
is_held (Busy w) = not w.gone
is_held state = true

-- the memory of a slot that holds some: it isn't vacant, nor busy with its container gone
abbrev pub share_of : Life → ℕ → ℕ
share_of L n = if is_held (state_of L n) then memory_of L n else 0

-- the memory that they hold together
abbrev pub held_of : Life → ℕ → ℕ
held_of L count = memory_held (slots_of L count)

abbrev pub runs_after : Event → ℕ → ℕ
runs_after (Ran slot run key start at) count = count + 1
runs_after (Prewarming slot run kind memory) count = count + 1
runs_after event count = count

-- how many runs were ordered; each order's number is one more than those before
abbrev pub run_count : Life → ℕ
run_count [] = 0
run_count (event ∷ L) = runs_after event (run_count L)

abbrev pub running_after : Event → ℕ → Bool → Bool
running_after (Ran slot r key start at) run b = (r == run) || b
running_after (Answered r alive at) run b = not (r == run) && b
running_after (Lost r) run b = not (r == run) && b
running_after Reopened run b = false
running_after event run b = b

-- whether a run of an action was ordered, and since then neither answered nor lost
abbrev pub is_running : ℕ → Life → Bool
is_running run [] = false
is_running run (event ∷ L) = running_after event run (is_running run L)
