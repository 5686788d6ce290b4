-- The trace: what happened on a floor, item by item, the newest first. Each other word here is a recursion
-- over that list by cases on the newest item, or a filter of such words.
use Rattle.std.specs.Prelude.{◌==◌, ◌+◌, ◌++◌, ◌/◌, ℕ, Bool, true, false, List, [], ◌∷◌, Option, Some, None, if◌then◌else◌, map}
use Rattle.std.specs.List.{find, filter, filter_map}
use Rattle.ow_records.specs.declared.ids.Id.{Id}
use Rattle.ow_records.specs.declared.outcomes.Ending.{Ending}
use Rattle.ow_records.specs.Id.{same_id}
use Rattle.ow_records.specs.Record.{record_of as leaf_record}
use Rattle.ow_records.specs.declared.activations.Activation.{Activation}
use Rattle.ow_floor.specs.declared.activations.Open.{Open}
use Rattle.ow_records.specs.declared.record.Record.{Record}
use Rattle.ow_floor.specs.declared.activations.State.{State}
use Rattle.ow_floor.specs.declared.activations.State.TheVariants.{Waiting, Running}
use Rattle.ow_traits.specs.declared.prewarms.Prewarm.{Prewarm}
use Rattle.ow_floor.specs.declared.lists.Blocking.{Blocking}
use Rattle.ow_floor.specs.declared.runs.Run.{Run}
use Rattle.ow_floor.specs.declared.answers.Container.{Container}
use Rattle.ow_floor.specs.declared.answers.PrewarmOrder.{PrewarmOrder}
use Rattle.ow_entity.specs.declared.bounds.TheConstants.{LEAST_MEMORY}
use Rattle.ow_records.specs.declared.outcomes.Ending.TheVariants.{Overran}
use Rattle.ow_slots.specs.declared.keys.Key.{Key}
use Rattle.ow_slots.specs.declared.states.Slot.{Slot}
use Rattle.ow_slot_laws.specs.Life as lives
use Rattle.ow_slot_laws.specs.Life.{Event, Life, slots_of}
use Rattle.ow_slot_laws.specs.Fitting.{changed}
use Rattle.ow_records.specs.Records.{is_due, is_of_id, is_retained}
use Rattle.ow_slots.specs.Slots.{change_first}
use Rattle.std.specs.Option.{option_or}
use Rattle.ow_records.specs.declared.frames.Frame.{Frame}
use Rattle.ow_floor.specs.Frames.{frames_accepted, frames_ended, part_of}
use Rattle.ow_floor.specs.View.{Shown, begun, carries, ids_of, is_number, is_of, last_of, put_id, remove_first, runs_now, waits}

-- the end of an activation: what ended it, the run that carried it then as it was then, and the moment
pub record End : Type 0 where
  pub task : Activation
  pub ending : Ending
  pub run : Option Run
  pub at : ℕ

-- one thing that happened on a floor; first of all it was opened, with a pool, in MB, and containers that are wanted ahead. Then it may
-- take over the last ids and the records of an earlier run. A reply says whether the container can be used again. A fire of a trigger is
-- two items: its id is drawn, and it is recorded. The activations that it makes come between these two. An archive takes out the records
-- whose end is at most a moment
pub data Item : Type 0 where
  Opened : (pool : ℕ) (wants : List Prewarm) → Item
  Resumed : (counts : List Id) (records : List Record) → Item
  Accepted : (activation : Activation) → Item
  Ordered : (run : Run) (key : Key) → Item
  Prewarming : (order : PrewarmOrder) (at : ℕ) → Item
  Removed : (containers : List Container) (at : ℕ) → Item
  Begun : (run at : ℕ) → Item
  Answered : (run : ℕ) (alive : Bool) (at : ℕ) → Item
  Lost : (run at : ℕ) → Item
  Gone : (slot generation at : ℕ) → Item
  Ended : (end : End) → Item
  Drawn : (id : Id) (at : ℕ) → Item
  Fired : (fire : Record) → Item
  Swept : (at : ℕ) → Item
  Drained : (at : ℕ) → Item
  Reopened : (at : ℕ) → Item
  Archived : (until at : ℕ) → Item

-- the newest first
abbrev pub Trace : Type 0
Trace = List Item

-- ---- by the newest item

abbrev pub accepted_after : Item → List Activation → List Activation
accepted_after (Accepted activation) xs = xs ++ activation ∷ []
accepted_after item xs = xs

-- the activations, by acceptance
abbrev pub accepted : Trace → List Activation
accepted [] = []
accepted (item ∷ T) = accepted_after item (accepted T)

abbrev pub fired_after : Item → List Record → List Record
fired_after (Fired r) rs = rs ++ r ∷ []
fired_after item rs = rs

-- the records of fires, by their order
abbrev pub fired : Trace → List Record
fired [] = []
fired (item ∷ T) = fired_after item (fired T)

-- the ids of what was accepted: of activations, and of fires
abbrev pub accepted_ids : Trace → List Id
accepted_ids T = map (λ a. a.id) (accepted T) ++ map (λ r. r.id) (fired T)

abbrev pub firing_after : Item → Option Id → Option Id
firing_after (Resumed counts rs) firing = None
firing_after (Drawn id at) firing = Some id
firing_after (Fired r) firing = None
firing_after (Reopened at) firing = None
firing_after item firing = firing

-- the id that was drawn for a fire that isn't recorded yet
abbrev pub firing : Trace → Option Id
firing [] = None
firing (item ∷ T) = firing_after item (firing T)

abbrev pub count_after : Item → ℕ → ℕ
count_after (Accepted activation) n = n + 1
count_after (Fired r) n = n + 1
count_after (Reopened at) n = 0
count_after item n = n

-- how many were accepted since the last opening, fires among them
abbrev pub count : Trace → ℕ
count [] = 0
count (item ∷ T) = count_after item (count T)

-- with one more, where its request waits
abbrev pub blocked_by : Id → Option ℕ → List Blocking → List Blocking
blocked_by id None bs = bs
blocked_by id (Some until) bs = bs ++ record { id = id; until = until } ∷ []

abbrev pub blocking_after : Item → List Blocking → List Blocking
blocking_after (Accepted a) bs = blocked_by a.id a.until bs
blocking_after (Reopened at) bs = []
blocking_after item bs = bs

-- the activations accepted since the last opening for whose end a request waits, by acceptance
abbrev pub blocking : Trace → List Blocking
blocking [] = []
blocking (item ∷ T) = blocking_after item (blocking T)

abbrev pub wait_after : Item → Id → Option ℕ → Option ℕ
wait_after (Accepted a) id wait = option_or (if same_id a.id id then a.until else None) wait
wait_after (Reopened at) id wait = None
wait_after item id wait = wait

-- the until of this activation: none where none of this id was accepted with one since the last opening
abbrev pub wait_of : Trace → Id → Option ℕ
wait_of [] id = None
wait_of (item ∷ T) id = wait_after item id (wait_of T id)

abbrev pub ends_after : Item → List End → List End
ends_after (Ended end) xs = xs ++ end ∷ []
ends_after item xs = xs

-- the ends, by their order
abbrev pub ends : Trace → List End
ends [] = []
ends (item ∷ T) = ends_after item (ends T)

-- the moment of a run's order, where there is a run
abbrev pub started : Option Run → Option ℕ
started None = None
started (Some r) = Some r.at

-- the moment at which a run began, where there is a run and it did. A warm run never begins
abbrev pub began : Option Run → Option ℕ
began None = None
began (Some r) = r.begun

-- the record of an end
abbrev pub record_of : End → Record
record_of e = leaf_record e.task e.ending (started e.run) (began e.run) e.at

abbrev pub records_after : Item → List Record → List Record
records_after (Ended end) xs = xs ++ record_of end ∷ []
records_after (Fired r) xs = xs ++ r ∷ []
records_after item xs = xs

-- the records of what has ended since and of fires, by their order
abbrev pub records : Trace → List Record
records [] = []
records (item ∷ T) = records_after item (records T)

abbrev pub resumed_after : Item → List Record → List Record
resumed_after (Resumed counts rs) xs = rs
resumed_after item xs = xs

-- the records that were taken over from an earlier run
abbrev pub resumed : Trace → List Record
resumed [] = []
resumed (item ∷ T) = resumed_after item (resumed T)

-- all records: those of an earlier run, and those since
abbrev pub all_records : Trace → List Record
all_records T = resumed T ++ records T

-- what is shown with one more item, where these were recorded since
abbrev pub shown_after : Item → List Record → List Record → List Record
shown_after (Resumed counts rs) since xs = rs ++ since
shown_after (Ended end) since xs = xs ++ record_of end ∷ []
shown_after (Fired r) since xs = xs ++ r ∷ []
shown_after (Archived until at) since xs = filter (is_retained until) xs
shown_after item since xs = xs

-- the records that no archive has taken out: those of an earlier run, and those since, by their order
abbrev pub shown_records : Trace → List Record
shown_records [] = []
shown_records (item ∷ T) = shown_after item (records T) (shown_records T)

abbrev pub archived_after : Item → List Record → List Record → List Record
archived_after (Resumed counts rs) shown xs = []
archived_after (Archived until at) shown xs = xs ++ filter (is_due until) shown
archived_after item shown xs = xs

-- the records that an archive has taken out, by the archives
abbrev pub archived_records : Trace → List Record
archived_records [] = []
archived_records (item ∷ T) = archived_after item (shown_records T) (archived_records T)

-- their ids
abbrev pub archived : Trace → List Id
archived T = map (λ r. r.id) (archived_records T)

abbrev pub drawn_after : Item → List Id → List Id
drawn_after (Resumed counts rs) ids = counts
drawn_after (Accepted a) ids = put_id a.id ids
drawn_after (Drawn id at) ids = put_id id ids
drawn_after item ids = ids

-- the last id of each namespace
abbrev pub drawn : Trace → List Id
drawn [] = []
drawn (item ∷ T) = drawn_after item (drawn T)

abbrev pub last_after : Item → ℕ → ℕ → ℕ
last_after (Resumed counts rs) namespace n = last_of counts namespace
last_after (Accepted a) namespace n = if a.id.namespace == namespace then a.id.count else n
last_after (Drawn id at) namespace n = if id.namespace == namespace then id.count else n
last_after item namespace n = n

-- the last count drawn in a namespace, 0 at first
abbrev pub last : Trace → ℕ → ℕ
last [] namespace = 0
last (item ∷ T) namespace = last_after item namespace (last T namespace)

abbrev pub run_count_after : Item → ℕ → ℕ
run_count_after (Ordered run key) n = n + 1
run_count_after (Prewarming order at) n = n + 1
run_count_after item n = n

-- how many runs were ordered, those of containers ahead among them
abbrev pub run_count : Trace → ℕ
run_count [] = 0
run_count (item ∷ T) = run_count_after item (run_count T)

-- a run of an activation is live from its order until its own reply or its loss
abbrev pub live_after : Item → List Run → List Run
live_after (Ordered run key) rs = rs ++ run ∷ []
live_after (Begun run at) rs = change_first (is_number run) (begun at) rs
live_after (Answered run alive at) rs = remove_first (is_number run) rs
live_after (Lost run at) rs = remove_first (is_number run) rs
live_after (Reopened at) rs = []
live_after item rs = rs

-- the live runs, by their orders
abbrev pub live : Trace → List Run
live [] = []
live (item ∷ T) = live_after item (live T)

abbrev pub frames_after : Item → List Frame → List Frame
frames_after (Accepted a) fs = frames_accepted (part_of a) fs
frames_after (Ended end) fs = frames_ended (part_of end.task) (record_of end).response fs
frames_after item fs = fs

-- what is kept of composites that have not ended, by acceptance
abbrev pub frames : Trace → List Frame
frames [] = []
frames (item ∷ T) = frames_after item (frames T)

-- the end of what a run carries by a sweep
abbrev pub overrun_of : Ending → Option Run → ℕ → Option Event
overrun_of Overran (Some r) at = Some (lives.Overran r.number at)
overrun_of ending run at = None

-- what an item is for slots
abbrev pub event_of : Item → Option Event
event_of (Ordered r key) = Some (lives.Ran r.slot r.number key r.start r.at)
event_of (Prewarming o at) = Some (lives.Prewarming o.slot o.run o.kind o.memory)
event_of (Removed containers at) = Some (lives.Removed (map (λ c. c.slot) containers))
event_of (Begun run at) = Some (lives.Begun run at)
event_of (Answered run alive at) = Some (lives.Answered run alive at)
event_of (Lost run at) = Some (lives.Lost run)
event_of (Gone slot generation at) = Some (lives.Gone slot generation)
event_of (Ended end) = overrun_of end.ending end.run end.at
event_of (Reopened at) = Some lives.Reopened
event_of item = None

abbrev pub life_by : Option Event → Life → Life
life_by None L = L
life_by (Some e) L = e ∷ L

-- what happened to slots
abbrev pub life : Trace → Life
life [] = []
life (item ∷ T) = life_by (event_of item) (life T)

abbrev pub slots_by : Option Event → List Slot → List Slot
slots_by None slots = slots
slots_by (Some e) slots = changed e slots

abbrev pub slots_after : Item → List Slot → List Slot
slots_after item slots = slots_by (event_of item) slots

-- when a thing happened; an opening with a pool has no moment, and neither has what is taken over
abbrev pub moment_of : Item → ℕ
moment_of (Opened pool wants) = 0
moment_of (Resumed counts rs) = 0
moment_of (Accepted a) = a.at
moment_of (Ordered run key) = run.at
moment_of (Prewarming order at) = at
moment_of (Removed containers at) = at
moment_of (Begun run at) = at
moment_of (Answered run alive at) = at
moment_of (Lost run at) = at
moment_of (Gone slot generation at) = at
moment_of (Ended end) = end.at
moment_of (Drawn id at) = at
moment_of (Fired r) = r.span.start
moment_of (Swept at) = at
moment_of (Drained at) = at
moment_of (Reopened at) = at
moment_of (Archived until at) = at

-- the moment of the newest thing, 0 at first
abbrev pub latest : Trace → ℕ
latest [] = 0
latest (item ∷ T) = moment_of item

abbrev pub draining_after : Item → Bool → Bool
draining_after (Drained at) b = true
draining_after (Reopened at) b = false
draining_after item b = b

-- whether the floor drains
abbrev pub is_draining : Trace → Bool
is_draining [] = false
is_draining (item ∷ T) = draining_after item (is_draining T)

abbrev pub pool_after : Item → ℕ → ℕ
pool_after (Opened pool wants) n = pool
pool_after item n = n

-- the memory of the pool, in MB
abbrev pub pool_of : Trace → ℕ
pool_of [] = 0
pool_of (item ∷ T) = pool_after item (pool_of T)

abbrev pub wants_after : Item → List Prewarm → List Prewarm
wants_after (Opened pool wants) ws = wants
wants_after item ws = ws

-- which containers are wanted ahead
abbrev pub wants_of : Trace → List Prewarm
wants_of [] = []
wants_of (item ∷ T) = wants_after item (wants_of T)

-- how many slots a pool has: one for each container of the least memory
abbrev pub slot_count : ℕ → ℕ
slot_count pool = pool / LEAST_MEMORY

-- the slots, each by the last order that names it
abbrev pub slots : Trace → List Slot
slots T = slots_of (life T) (slot_count (pool_of T))

-- ---- by filters

-- the record of what has ended
abbrev pub end_of : Trace → Id → Option Record
end_of T id = find (is_of_id id) (records T)

-- the record of what has ended, where no archive has taken it out
abbrev pub shown_of : Trace → Id → Option Record
shown_of T id = find (is_of_id id) (shown_records T)

-- the live run of this number
abbrev pub live_run : Trace → ℕ → Option Run
live_run T run = find (is_number run) (live T)

-- the live run of an activation
abbrev pub carrier : Trace → Id → Option Run
carrier T id = find (carries id) (live T)

-- it waits unless a live run carries it
abbrev pub state_by : Option Run → State
state_by None = Waiting
state_by (Some r) = Running r.number

-- the state of an activation: none where it has ended
abbrev pub standing_by : Option Record → Option Run → Option State
standing_by None run = Some (state_by run)
standing_by (Some e) run = None

abbrev pub standing : Trace → Id → Option State
standing T id = standing_by (end_of T id) (carrier T id)

-- an open activation, where it has a state
abbrev pub open_of : Activation → Option State → Option Open
open_of a None = None
open_of a (Some state) = Some (record { task = a; state = state })

-- the activations that have not ended, by acceptance, with whether each waits or which run carries it
abbrev pub open_items : Trace → List Open
open_items T = filter_map (λ a. open_of a (standing T a.id)) (accepted T)

-- the open activation of this id
abbrev pub open_item : Trace → Id → Option Open
open_item T id = find (is_of id) (open_items T)

abbrev pub task_by : Option Open → Option Activation
task_by None = None
task_by (Some o) = Some o.task

-- what was accepted with this id, where it hasn't ended
abbrev pub open_task : Trace → Id → Option Activation
open_task T id = task_by (open_item T id)

-- the ids that wait, by acceptance
abbrev pub waiting : Trace → List Id
waiting T = ids_of (filter waits (open_items T))

-- the ids that run, by acceptance
abbrev pub running : Trace → List Id
running T = ids_of (filter runs_now (open_items T))

-- the ids that are recorded since, by their order
abbrev pub recorded : Trace → List Id
recorded T = map (λ e. e.id) (records T)

-- what an item adds to them
abbrev pub recorded_after : Item → List Id → List Id
recorded_after (Ended end) ids = ids ++ end.task.id ∷ []
recorded_after (Fired r) ids = ids ++ r.id ∷ []
recorded_after item ids = ids

-- the view of a floor that has the state of the trace
abbrev pub shown : Trace → Shown
shown T = record {
  open_items = open_items T;
  live = live T;
  frames = frames T;
  slots = slots T;
  records = shown_records T;
  recorded = recorded T;
  drawn = drawn T;
  runs = run_count T;
  count = count T;
  blocking = blocking T;
  firing = firing T;
  latest = latest T;
  draining = is_draining T;
  pool = pool_of T;
  wants = wants_of T;
}
