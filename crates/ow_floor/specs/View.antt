-- The view of a floor, and the definitions over its lists.
use Rattle.std.specs.Prelude.{◌&&◌, ◌==◌, ◌+◌, ℕ, Bool, true, false, List, [], ◌∷◌, Option, Some, None, if◌then◌else◌, not, map, slice_get}
use Rattle.std.specs.Option.{option_or}
use Rattle.std.specs.List.{find, filter}
use Rattle.ow_traits.specs.declared.replies.Kind.{Kind}
use Rattle.ow_entity.specs.Exec.{exec_code}
use Rattle.ow_records.specs.declared.ids.Id.{Id}
use Rattle.ow_records.specs.Form.{is_composite}
use Rattle.ow_records.specs.Id.{same_id}
use Rattle.ow_records.specs.Records.{is_retained}
use Rattle.ow_records.specs.declared.activations.Activation.{Activation}
use Rattle.ow_records.specs.declared.frames.Frame.{Frame}
use Rattle.ow_floor.specs.declared.activations.Open.{Open}
use Rattle.ow_records.specs.declared.record.Record.{Record}
use Rattle.ow_floor.specs.declared.activations.State.{State}
use Rattle.ow_floor.specs.declared.activations.State.TheVariants.{Waiting}
use Rattle.ow_floor.specs.declared.lists.Blocking.{Blocking}
use Rattle.ow_floor.specs.declared.runs.Run.{Run}
use Rattle.ow_slots.specs.declared.keys.Key.{Key}
use Rattle.ow_slots.specs.declared.states.Slot.{Slot}
use Rattle.ow_slots.specs.Key.{kind_of}
use Rattle.ow_slots.specs.Slots.{first_with}
use Rattle.ow_slots.specs.State.{is_cold, recorded_of as recorded_at, runs}
use Rattle.ow_floor.specs.declared.answers.Container.{Container}
use Rattle.ow_floor.specs.declared.answers.PrewarmOrder.{PrewarmOrder}
use Rattle.ow_floor.specs.declared.answers.Order.{Order}
use Rattle.ow_floor.specs.declared.answers.Order.TheVariants.{Nothing}
use Rattle.ow_floor.specs.declared.answers.RunOrder.{RunOrder}
use Rattle.ow_slots.specs.declared.keys.Start.{Start}
use Rattle.ow_traits.specs.declared.prewarms.Prewarm.{Prewarm}

-- the activations that have not ended, by acceptance; the live runs, by their orders; what is kept of open composites, by acceptance; the
-- slots, by number; the records that are shown: those that were taken over from an earlier run, and those of the activations that have
-- ended and of fires, by their order, without those that were archived; the ids of the activations that have ended and of fires, by their
-- order; the last id of each namespace; how many runs were ordered, those of containers ahead among them; how many were accepted since the
-- last opening; which of these a request waits for; the id of a fire that isn't recorded yet; the moment of the newest thing; whether it
-- drains; the memory of the pool, in MB, and which containers are wanted ahead
pub record Shown : Type 0 where
  pub open_items : List Open
  pub live : List Run
  pub frames : List Frame
  pub slots : List Slot
  pub records : List Record
  pub recorded : List Id
  pub drawn : List Id
  pub runs : ℕ
  pub count : ℕ
  pub blocking : List Blocking
  pub firing : Option Id
  pub latest : ℕ
  pub draining : Bool
  pub pool : ℕ
  pub wants : List Prewarm

-- a floor as it is now, and where it is held as it was at the hold
pub record FloorView : Type 0 where
  pub now : Shown
  pub before : Option Shown

-- ---- tests

abbrev pub is_waiting : State → Bool
is_waiting Waiting = true
is_waiting state = false

-- whether an open activation waits; a composite never does, since it has no run of its own
abbrev pub waits : Open → Bool
waits o = is_waiting o.state && not (is_composite o.task.form)

-- the first that waits: the next run is ordered for it
abbrev pub head : Shown → Option Open
head v = find waits v.open_items

-- whether an open activation does not wait
abbrev pub runs_now : Open → Bool
runs_now o = not (waits o)

-- whether an open activation has this id
abbrev pub is_of : Id → Open → Bool
is_of id o = same_id o.task.id id

-- whether a run has this number
abbrev pub is_number : ℕ → Run → Bool
is_number run r = r.number == run

-- whether a run carries the activation of this id
abbrev pub carries : Id → Run → Bool
carries id r = same_id r.id id

-- whether two open activations are one, for private clauses
abbrev pub same_open : Open → Open → Bool
same_open a b = same_id a.task.id b.task.id

-- whether two records are of one activation
abbrev pub same_record : Record → Record → Bool
same_record a b = same_id a.id b.id

-- whether two ids are of one namespace
abbrev pub same_namespace : Id → Id → Bool
same_namespace a b = a.namespace == b.namespace

-- whether an id is of this namespace
abbrev pub is_in : ℕ → Id → Bool
is_in namespace id = id.namespace == namespace

-- ---- lists

-- the ids of open activations
abbrev pub ids_of : List Open → List Id
ids_of os = map (λ o. o.task.id) os

-- the ids that wait on a floor
abbrev pub waiting_of : Shown → List Id
waiting_of v = ids_of (filter waits v.open_items)

-- the ids that run on a floor
abbrev pub running_of : Shown → List Id
running_of v = ids_of (filter runs_now v.open_items)

-- the ids that are recorded on a floor
abbrev pub recorded_of : Shown → List Id
recorded_of v = v.recorded

abbrev pub count_or_zero : Option Id → ℕ
count_or_zero None = 0
count_or_zero (Some id) = id.count

-- the last count drawn in a namespace, 0 at first
abbrev pub last_of : List Id → ℕ → ℕ
last_of ids namespace = count_or_zero (find (is_in namespace) ids)

-- the first that passes is taken out
unfoldable pub remove_first : {X : Type 0} → (X → Bool) → List X → List X
remove_first p [] = []
remove_first p (x ∷ xs) = if p x then xs else x ∷ remove_first p xs

-- the last id of its namespace is this one now
unfoldable pub put_id : Id → List Id → List Id
put_id id [] = id ∷ []
put_id id (x ∷ xs) = if is_in id.namespace x then id ∷ xs else x ∷ put_id id xs

-- ---- changes

-- without the records whose end is at most this moment. All else stays
abbrev pub archived_on : ℕ → Shown → Shown
archived_on until v = record v { records = filter (is_retained until) v.records }

-- an open activation in this state
abbrev pub with_state : State → Open → Open
with_state s o = record { task = o.task; state = s }

-- a run that began at this moment
abbrev pub begun : ℕ → Run → Run
begun at r = record { number = r.number; slot = r.slot; generation = r.generation; start = r.start; at = r.at; id = r.id; begun = Some at }

-- ---- orders

abbrev pub is_nothing : Order → Bool
is_nothing (Nothing idle) = true
is_nothing order = false

-- what a container has to have run to be warm for an activation
abbrev pub key_of : Activation → Key
key_of a = record {
  namespace = a.namespace;
  action = a.action.name;
  version = a.action.version;
  exec = a.action.exec;
  memory = a.action.limits.memory;
}

abbrev pub generation_by : Option Slot → ℕ
generation_by None = 0
generation_by (Some s) = s.generation

-- the generation of a slot, 0 where it isn't there
abbrev pub generation_in : ℕ → List Slot → ℕ
generation_in slot slots = generation_by (slice_get slots slot)

-- the generation of a slot once a run has started in it so
abbrev pub generation_after : ℕ → Start → List Slot → ℕ
generation_after slot start slots = generation_in slot slots + (if is_cold start then 1 else 0)

-- the containers of these slots
abbrev pub containers_of : List ℕ → List Slot → List Container
containers_of ns slots = map (λ n. record { slot = n; generation = generation_in n slots }) ns

-- a container that is started ahead
abbrev pub prewarm_of : ℕ → ℕ → Kind → ℕ → List Slot → PrewarmOrder
prewarm_of run slot kind memory slots = record {
  run = run;
  slot = slot;
  generation = generation_in slot slots + 1;
  kind = kind;
  memory = memory;
}

abbrev pub recorded_by : Option Slot → Option ℕ
recorded_by None = None
recorded_by (Some s) = recorded_at s.state

-- the moment at which a sweep recorded what the run carries, by the slot that is busy with it
abbrev pub recorded_in : ℕ → List Slot → Option ℕ
recorded_in run slots = recorded_by (first_with (runs run) slots)

-- what a runner needs to run an activation
abbrev pub order_for : ℕ → ℕ → ℕ → Start → Activation → RunOrder
order_for run slot generation start a = record {
  run = run;
  id = a.id;
  slot = slot;
  generation = generation;
  start = start;
  kind = kind_of a.action.exec;
  code = exec_code a.action.exec;
  memory = a.action.limits.memory;
  params = a.params;
  timeout = a.action.limits.timeout;
}

-- ---- waits for the end

-- the moment until which the request that made this activation waits, by the newest item of that id, for private clauses
abbrev pub wait_in : Id → List Blocking → Option ℕ
wait_in id [] = None
wait_in id (b ∷ bs) = option_or (wait_in id bs) (if same_id b.id id then Some b.until else None)
