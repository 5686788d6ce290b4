-- For private clauses: the lists of a floor as they are kept. What was taken out leaves its place empty, so places stay.
use Rattle.std.specs.Prelude.{◌≡◌, ◌+◌, ◌-◌, ◌++◌, ◌<◌, ◌≤◌, ℕ, Bool, List, [], ◌∷◌, Option, Some, None, true, false, length, slice_set, slice_index_or}
use Rattle.std.proofs.Common.{zero, suc}
use Rattle.std.specs.List.{find, filter, cons_option}
use Rattle.ow_records.specs.declared.ids.Id.{Id}
use Rattle.ow_records.specs.declared.activations.Activation.{Activation}
use Rattle.ow_records.specs.declared.record.Record.{Record}
use Rattle.ow_records.specs.Records.{is_retained}
use Rattle.ow_floor.specs.declared.activations.Open.{Open}
use Rattle.ow_floor.specs.declared.activations.State.TheVariants.{Waiting, Running}
use Rattle.ow_traits.specs.declared.prewarms.Prewarm.{Prewarm}
use Rattle.ow_floor.specs.declared.lists.Berth.{Berth}
use Rattle.ow_floor.specs.declared.lists.Blocking.{Blocking}
use Rattle.ow_floor.specs.declared.lists.Marks.{Marks}
use Rattle.ow_floor.specs.declared.lists.Spot.{Spot}
use Rattle.ow_floor.specs.declared.runs.Run.{Run}
use Rattle.ow_slots.specs.declared.keys.Key.{Key}
use Rattle.ow_slots.specs.declared.states.Slot.{Slot}
use Rattle.ow_traits.specs.Prewarms.{AreWantsSized}
use Rattle.ow_pool.specs.Rules.{IsWithinPool}
use Rattle.ow_slot_laws.specs.Fitting.{changed, emptied}
use Rattle.ow_slot_laws.specs.Life.{Event}
use Rattle.ow_slot_laws.specs.Life as lives
use Rattle.ow_slot_laws.specs.Owed.{owed}
use Rattle.ow_floor.specs.declared.answers.PrewarmOrder.{PrewarmOrder}
use Rattle.ow_floor.specs.Trace.{blocked_by}
use Rattle.ow_slots.specs.Slots.{change_first}
use Rattle.ow_records.specs.declared.frames.Frame.{Frame}
use Rattle.ow_floor.specs.View.{Shown, put_id, remove_first, with_state}

-- the lists as they are kept
pub record Store : Type 0 where
  pub spots : List Spot
  pub tasks : List (Option Activation)
  pub runs : List (Option Berth)
  pub frames : List Frame
  pub slots : List Slot
  pub records : List Record
  pub recorded : List Id
  pub drawn : List Id
  pub blocking : List Blocking
  pub marks : Marks
  pub pool : ℕ
  pub wants : List Prewarm

-- the lists now, and as they were at the hold
pub record StoreView : Type 0 where
  pub now : Store
  pub past : Option Store

-- all the parts as they were, where they are held. The pool and what is wanted ahead don't change in a hold
abbrev pub past_of : ℕ → List Prewarm → Option (List Spot) → Option (List (Option Activation)) → Option (List (Option Berth)) → Option (List Frame) → Option (List Slot) → Option (List Record) → Option (List Id) → Option (List Id) → Option (List Blocking) → Option Marks → Option Store
past_of pool wants (Some spots) (Some tasks) (Some runs) (Some frames) (Some slots) (Some records) (Some recorded) (Some drawn) (Some blocking) (Some marks) =
    Some (record { spots = spots; tasks = tasks; runs = runs; frames = frames; slots = slots; records = records; recorded = recorded; drawn = drawn; blocking = blocking; marks = marks; pool = pool; wants = wants })
past_of pool wants spots tasks runs frames slots records recorded drawn blocking marks = None

-- what was before, where they are held
abbrev pub taken_back : Option Store → Store → Store
taken_back None now = now
taken_back (Some past) now = past

-- ---- what they show

abbrev pub open_at : Spot → Option Activation → Option Open
open_at s None = None
open_at s (Some a) = Some (record { task = a; state = s.state })

-- the activations that are there, with their states
abbrev pub opens : List Spot → List (Option Activation) → List Open
opens [] ts = []
opens (s ∷ ss) [] = []
opens (s ∷ ss) (t ∷ ts) = cons_option (open_at s t) (opens ss ts)

-- what the places hold, as it is shown
abbrev pub there : {X Y : Type 0} → (X → Y) → List (Option X) → List Y
there g [] = []
there g (None ∷ xs) = there g xs
there g (Some x ∷ xs) = g x ∷ there g xs

abbrev pub run_in : Berth → Run
run_in b = b.run

abbrev pub show : Store → Shown
show R = record {
  open_items = opens R.spots R.tasks;
  live = there run_in R.runs;
  frames = R.frames;
  slots = R.slots;
  records = R.records;
  recorded = R.recorded;
  drawn = R.drawn;
  runs = length R.runs;
  count = length R.spots - R.marks.opened;
  blocking = R.blocking;
  firing = R.marks.firing;
  latest = R.marks.latest;
  draining = R.marks.draining;
  pool = R.pool;
  wants = R.wants;
}

abbrev pub show_past : Option Store → Option Shown
show_past None = None
show_past (Some R) = Some (show R)

-- ---- places

-- the first open activation that passes is at this place
pub record IsSpot (p : Open → Bool) (ss : List Spot) (ts : List (Option Activation)) (k : ℕ) : Type 0 where
  pub item : Open
  pub within : k < length ss
  pub task : (d : Option Activation) → slice_index_or ts k d ≡ Some item.task
  pub state : (d : Spot) → (slice_index_or ss k d).state ≡ item.state
  pub found : find p (opens ss ts) ≡ Some item
  pub changed : (s : Spot) → opens (slice_set ss k s) ts ≡ change_first p (with_state s.state) (opens ss ts)
  pub removed : opens ss (slice_set ts k None) ≡ remove_first p (opens ss ts)

abbrev pub SpotOf : (Open → Bool) → List Spot → List (Option Activation) → Option ℕ → Type 0
SpotOf p ss ts None = find p (opens ss ts) ≡ None
SpotOf p ss ts (Some k) = IsSpot p ss ts k

-- the first thing that is there and passes is at this place
pub record IsCell {X Y : Type 0} (g : X → Y) (p : Y → Bool) (xs : List (Option X)) (k : ℕ) : Type 0 where
  pub item : X
  pub within : k < length xs
  pub here : (d : Option X) → slice_index_or xs k d ≡ Some item
  pub found : find p (there g xs) ≡ Some (g item)
  pub changed : (f : Y → Y) (x : X) → g x ≡ f (g item) → there g (slice_set xs k (Some x)) ≡ change_first p f (there g xs)
  pub removed : there g (slice_set xs k None) ≡ remove_first p (there g xs)

abbrev pub CellOf : {X Y : Type 0} → (X → Y) → (Y → Bool) → List (Option X) → Option ℕ → Type 0
CellOf g p xs None = find p (there g xs) ≡ None
CellOf g p xs (Some k) = IsCell g p xs k

-- the first n places are empty
abbrev pub AreGone : {X : Type 0} → ℕ → List (Option X) → Type 0
AreGone zero xs = Unit {0}
AreGone (suc k) [] = ⊥
AreGone (suc k) (x ∷ xs) = (x ≡ None) × AreGone k xs

-- ---- what holds of them

-- each place of a spot is one of a task; the last opening is within the list; each thing accepted is open or recorded, a fire at once; what
-- is owed is what the slots owe; the slots are within the pool, and what is wanted ahead has the memory of some action
pub record IsGood (R : Store) : Type 0 where
  pub paired : length R.tasks ≡ length R.spots
  pub opened : R.marks.opened ≤ length R.spots
  pub number : length (opens R.spots R.tasks) + length R.recorded ≡ length R.spots
  pub owed : R.marks.owed ≡ owed R.slots
  pub pool : IsWithinPool R.slots R.pool
  pub wants : AreWantsSized R.wants

abbrev pub IsGoodPast : Option Store → Type 0
IsGoodPast None = Unit {0}
IsGoodPast (Some R) = IsGood R

-- ---- changes

abbrev pub with_latest : ℕ → Marks → Marks
with_latest at m = record { latest = at; opened = m.opened; owed = m.owed; draining = m.draining; firing = m.firing }

abbrev pub with_owed : ℕ → ℕ → Marks → Marks
with_owed at owed m = record { latest = at; opened = m.opened; owed = owed; draining = m.draining; firing = m.firing }

abbrev pub with_firing : ℕ → Option Id → Marks → Marks
with_firing at firing m = record { latest = at; opened = m.opened; owed = m.owed; draining = m.draining; firing = firing }

-- at this moment
abbrev pub at_moment : ℕ → Store → Store
at_moment at R = record R { marks = with_latest at R.marks }

-- with these frames
abbrev pub with_frames : List Frame → Store → Store
with_frames fs R = record R { frames = fs }

-- an activation is added at the end
abbrev pub accepted_in : Activation → Store → Store
accepted_in a R = record {
  spots = R.spots ++ record { state = Waiting } ∷ [];
  tasks = R.tasks ++ Some a ∷ [];
  runs = R.runs;
  frames = R.frames;
  slots = R.slots;
  records = R.records;
  recorded = R.recorded;
  drawn = put_id a.id R.drawn;
  blocking = blocked_by a.id a.until R.blocking;
  marks = with_latest a.at R.marks;
  pool = R.pool;
  wants = R.wants;
}

-- an id is drawn for a fire
abbrev pub drawn_in : ℕ → Id → Store → Store
drawn_in at id R = record R { drawn = put_id id R.drawn; marks = with_firing at (Some id) R.marks }

-- the fire is recorded: it takes a place that holds no activation
abbrev pub fired_in : Record → Store → Store
fired_in r R = record {
  spots = R.spots ++ record { state = Waiting } ∷ [];
  tasks = R.tasks ++ None ∷ [];
  runs = R.runs;
  frames = R.frames;
  slots = R.slots;
  records = R.records ++ r ∷ [];
  recorded = R.recorded ++ r.id ∷ [];
  drawn = R.drawn;
  blocking = R.blocking;
  marks = with_firing r.span.start None R.marks;
  pool = R.pool;
  wants = R.wants;
}

-- an event of the slots, at this moment
abbrev pub event_in : ℕ → Event → Store → Store
event_in at e R = record R { slots = changed e R.slots; marks = with_owed at (owed (changed e R.slots)) R.marks }

-- the run starts with the activation at this place
abbrev pub started_in : ℕ → Run → Store → Store
started_in place r R = record R {
  spots = slice_set R.spots place (record { state = Running r.number });
  runs = R.runs ++ Some (record { run = r; place = place }) ∷ [];
}

-- and in its slot
abbrev pub ordered_in : ℕ → Run → Key → Store → Store
ordered_in place r key R = event_in r.at (lives.Ran r.slot r.number key r.start r.at) (started_in place r R)

-- the run of a container ahead is numbered
abbrev pub counted_in : Store → Store
counted_in R = record R { runs = R.runs ++ None ∷ [] }

-- a container is started ahead
abbrev pub prewarmed_in : ℕ → PrewarmOrder → Store → Store
prewarmed_in at o R = event_in at (lives.Prewarming o.slot o.run o.kind o.memory) (counted_in R)

-- another run, or none, at this place
abbrev pub run_put : ℕ → Option Berth → Store → Store
run_put place cell R = record R { runs = slice_set R.runs place cell }

-- the run at this place is answered
abbrev pub answered_in : ℕ → ℕ → Bool → ℕ → Store → Store
answered_in at run alive place R = event_in at (lives.Answered run alive at) (run_put place None R)

-- the activation at this place waits again
abbrev pub freed_in : ℕ → Store → Store
freed_in place R = record R { spots = slice_set R.spots place (record { state = Waiting }) }

-- the activation at this place has ended at this moment
abbrev pub ended_in : ℕ → ℕ → Record → Store → Store
ended_in at place e R = record {
  spots = R.spots;
  tasks = slice_set R.tasks place None;
  runs = R.runs;
  frames = R.frames;
  slots = R.slots;
  records = R.records ++ e ∷ [];
  recorded = R.recorded ++ e.id ∷ [];
  drawn = R.drawn;
  blocking = R.blocking;
  marks = with_latest at R.marks;
  pool = R.pool;
  wants = R.wants;
}

-- these last ids and records are taken over
abbrev pub resumed_in : List Id → List Record → Store → Store
resumed_in counts rs R = record R { records = rs; drawn = counts; marks = with_firing 0 None R.marks }

-- the records whose end is at most this moment are archived
abbrev pub archived_in : ℕ → Store → Store
archived_in until R = record R { records = filter (is_retained until) R.records }

abbrev pub drained_in : ℕ → Store → Store
drained_in at R = record R { marks = record { latest = at; opened = R.marks.opened; owed = R.marks.owed; draining = true; firing = R.marks.firing } }

-- as many empty places as the list has items
abbrev pub empty_of : {X Y : Type 0} → List X → List (Option Y)
empty_of [] = []
empty_of (x ∷ xs) = None ∷ empty_of xs

-- no run is live, and no container is there
abbrev pub reopened_in : ℕ → Store → Store
reopened_in at R = record R {
  runs = empty_of R.runs;
  slots = emptied R.slots;
  blocking = [];
  marks = record { latest = at; opened = length R.spots; owed = owed (emptied R.slots); draining = false; firing = None };
}
