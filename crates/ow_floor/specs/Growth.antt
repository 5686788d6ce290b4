-- What items do to the lists of a floor, and which item may come.
use Rattle.std.specs.Prelude.{◌≡◌, ◌+◌, ◌++◌, ◌≤◌, List, [], ◌∷◌, Option, Some, None}
use Rattle.std.specs.List.{find, AllByRecursion, IsDistinct}
use Rattle.ow_records.specs.declared.ids.Id.{Id}
use Rattle.ow_records.specs.declared.record.Record.{Record}
use Rattle.ow_floor.specs.declared.activations.Open.{Open}
use Rattle.ow_floor.specs.declared.activations.State.TheVariants.{Waiting, Running}
use Rattle.ow_floor.specs.declared.runs.Run.{Run}
use Rattle.ow_slots.specs.Slots.{memory_held, change_first}
use Rattle.ow_slot_laws.specs.Life.{Event}
use Rattle.ow_slot_laws.specs.Fitting.{IsFit, changed}
use Rattle.ow_floor.specs.View.{Shown, is_number, is_of, last_of, remove_first, same_namespace, same_record, waits, with_state}
use Rattle.ow_floor.specs.Trace.{Item, Trace, Opened, Resumed, Accepted, Ordered, Answered, Lost, Ended, Drawn, Fired, Reopened, blocking_after, count_after, draining_after, drawn_after, event_of, firing_after, frames_after, live_after, moment_of, pool_after, recorded_after, run_count_after, shown_after, slots_after, wants_after}

-- what a lost run carries waits again
abbrev pub freed : Option Run → List Open → List Open
freed None os = os
freed (Some r) os = change_first (is_of r.id) (with_state Waiting) os

-- what is open, with one more item
abbrev pub open_after : Item → List Run → List Open → List Open
open_after (Accepted a) rs os = os ++ record { task = a; state = Waiting } ∷ []
open_after (Ordered r key) rs os = change_first waits (with_state (Running r.number)) os
open_after (Lost run at) rs os = freed (find (is_number run) rs) os
open_after (Ended e) rs os = remove_first (is_of e.task.id) os
open_after item rs os = os

-- the lists, with one more item. Nothing is recorded before records are taken over
abbrev pub grow : Item → Shown → Shown
grow item v = record {
  open_items = open_after item v.live v.open_items;
  live = live_after item v.live;
  frames = frames_after item v.frames;
  slots = slots_after item v.slots;
  records = shown_after item [] v.records;
  recorded = recorded_after item v.recorded;
  drawn = drawn_after item v.drawn;
  runs = run_count_after item v.runs;
  count = count_after item v.count;
  blocking = blocking_after item v.blocking;
  firing = firing_after item v.firing;
  latest = moment_of item;
  draining = draining_after item v.draining;
  pool = pool_after item v.pool;
  wants = wants_after item v.wants;
}

-- with more items, the newest first
abbrev pub grown : Trace → Shown → Shown
grown [] v = v
grown (item ∷ items) v = grow item (grown items v)

-- ---- which item may come

-- a named run is live
abbrev pub IsLive : Option Run → List Run → Type 0
IsLive None rs = Unit {0}
IsLive (Some r) rs = find (is_number r.number) rs ≡ Some r

-- nothing has happened to an activation yet, and nothing was taken over
pub record IsFresh (v : Shown) : Type 0 where
  pub open_items : v.open_items ≡ []
  pub live : v.live ≡ []
  pub records : v.records ≡ []
  pub recorded : v.recorded ≡ []
  pub drawn : v.drawn ≡ []

-- what may be taken over: last ids of different namespaces, and records of different activations whose ids were drawn
pub record AreResumable (counts : List Id) (rs : List Record) : Type 0 where
  pub namespaces : IsDistinct same_namespace counts
  pub apart : IsDistinct same_record rs
  pub drawn : AllByRecursion (λ r. r.id.count ≤ last_of counts r.id.namespace) rs

-- a floor is opened once, first of all, and takes over what may be before anything else happens to an activation; an id is the next of its
-- namespace; a run carries the first that waits; a reply comes from a live run whose activation has ended; what ends is open, and the run
-- that it names is live; the record of a fire has the id that was drawn for it; at an opening nothing is open
abbrev pub IsItemRight : Item → Shown → Type 0
IsItemRight (Opened pool wants) v = ⊥
IsItemRight (Resumed counts rs) v = IsFresh v × AreResumable counts rs
IsItemRight (Accepted a) v = a.id.count ≡ last_of v.drawn a.id.namespace + 1
IsItemRight (Ordered r key) v = (o : Open) × (find waits v.open_items ≡ Some o) × (r.id ≡ o.task.id)
IsItemRight (Answered run alive at) v = (r : Run) × (find (is_number run) v.live ≡ Some r) × (find (is_of r.id) v.open_items ≡ None)
IsItemRight (Ended e) v = (o : Open) × (find (is_of e.task.id) v.open_items ≡ Some o) × (e.task ≡ o.task) × IsLive e.run v.live
IsItemRight (Drawn id at) v = id.count ≡ last_of v.drawn id.namespace + 1
IsItemRight (Fired r) v = v.firing ≡ Some r.id
IsItemRight (Reopened at) v = v.open_items ≡ []
IsItemRight item v = Unit {0}

-- what it is for slots fits them, and leaves what they hold within the pool
abbrev pub IsEventRight : Option Event → Shown → Type 0
IsEventRight None v = Unit {0}
IsEventRight (Some e) v = IsFit e v.slots v.runs × (memory_held (changed e v.slots) ≤ v.pool)

abbrev pub IsRight : Item → Shown → Type 0
IsRight item v = IsItemRight item v × IsEventRight (event_of item) v

-- each item may come after the items before it
abbrev pub AreRight : Trace → Shown → Type 0
AreRight [] v = Unit {0}
AreRight (item ∷ items) v = IsRight item (grown items v) × AreRight items v
