-- What is true of every trace that the calls of a floor make, and when a floor has the state of a trace.
use Rattle.std.specs.Prelude.{◌≡◌, ◌⊎◌, ◌+◌, ◌++◌, ◌≤◌, ℕ, Bool, false, List, [], ◌∷◌, Option, Some, None, if◌then◌else◌, is_some, map, not}
use Rattle.std.specs.List.{AllByRecursion, IsDistinct, filter, list_any}
use Rattle.ow_records.specs.declared.ids.Id.{Id}
use Rattle.ow_records.specs.Id.{same_id}
use Rattle.ow_records.specs.declared.activations.Activation.{Activation}
use Rattle.ow_records.specs.declared.record.Record.{Record}
use Rattle.ow_floor.specs.declared.runs.Run.{Run}
use Rattle.ow_slots.specs.Slots.{first_with, has, memory_held}
use Rattle.ow_slots.specs.State.{runs as is_busy_with}
use Rattle.ow_slot_laws.specs.Fitting.{AreFit}
use Rattle.ow_floor.specs.View.{Shown, carries, ids_of, is_number, recorded_of, running_of, same_namespace, same_record, waiting_of}
use Rattle.ow_floor.specs.Trace.{Trace, accepted, accepted_ids, all_records, archived, ends, last, life, live, live_run, open_items, pool_of, records, recorded, run_count, running, shown, shown_records, slot_count, slots, waiting}
use Rattle.ow_floor.specs.Trace as trace

-- how often an id occurs in a list
abbrev pub times : Id → List Id → ℕ
times id [] = 0
times id (x ∷ xs) = (if same_id id x then 1 else 0) + times id xs

-- how many pass
abbrev pub tally : {X : Type 0} → (X → Bool) → List X → ℕ
tally p [] = 0
tally p (x ∷ xs) = (if p x then 1 else 0) + tally p xs

-- how many runs carry an activation
abbrev pub loads : Id → List Run → ℕ
loads id rs = tally (carries id) rs

-- how many runs have a number
abbrev pub bearers : ℕ → List Run → ℕ
bearers run rs = tally (is_number run) rs

-- each accepted id is in exactly one of the three lists, once, and nothing else is in them
pub record IsParted (T : Trace) : Type 0 where
  pub once : (id : Id) → times id (accepted_ids T) ≤ 1
  pub parts : (id : Id) → times id (waiting T) + times id (running T) + times id (recorded T) ≡ times id (accepted_ids T)

-- each accepted id is recorded, once, and no other
abbrev pub AreAllRecorded : Trace → Type 0
AreAllRecorded T = (id : Id) → (times id (recorded T) ≡ times id (accepted_ids T)) × (times id (recorded T) ≤ 1)

-- an activation is in a list
abbrev pub IsAmong : Activation → List Activation → Type 0
IsAmong a [] = ⊥
IsAmong a (x ∷ xs) = (a ≡ x) ⊎ IsAmong a xs

-- the ids of records
abbrev pub record_ids : List Record → List Id
record_ids rs = map (λ r. r.id) rs

-- whether a record was archived
abbrev pub was_archived : Trace → Record → Bool
was_archived T r = list_any (same_id r.id) (archived T)

-- no id has two records; each record is shown or archived, once; and the shown ones are those that weren't archived, in their order
pub record AreShownOrArchived (T : Trace) : Type 0 where
  pub once : (id : Id) → times id (record_ids (all_records T)) ≤ 1
  pub parts : (id : Id) → times id (record_ids (shown_records T)) + times id (archived T) ≡ times id (record_ids (all_records T))
  pub shown : shown_records T ≡ filter (λ r. not (was_archived T r)) (all_records T)

-- what has ended was accepted, as it was planned
abbrev pub EndedWereAccepted : Trace → Type 0
EndedWereAccepted T = AllByRecursion (λ e. IsAmong e.task (accepted T)) (ends T)

-- ids that differ from this one
abbrev pub IsApart : Id → List Activation → Type 0
IsApart id xs = AllByRecursion (λ a. (same_id id a.id ≡ false) × (same_id a.id id ≡ false)) xs

-- ids that differ from one another
abbrev pub AreApart : List Activation → Type 0
AreApart [] = Unit {0}
AreApart (a ∷ xs) = IsApart a.id xs × AreApart xs

-- no activation has two live runs, and no two live runs have one number
pub record RunOnce (T : Trace) : Type 0 where
  pub one : (id : Id) → loads id (live T) ≤ 1
  pub single : (run : ℕ) → bearers run (live T) ≤ 1

-- what happened to slots fits them, they hold no more than the pool, and as many slots are busy with a run as live runs have its number
pub record AreSlotsSound (T : Trace) : Type 0 where
  pub fit : AreFit (life T) (slot_count (pool_of T))
  pub within : memory_held (slots T) ≤ pool_of T
  pub busy : (run : ℕ) → bearers run (live T) ≡ tally (has (is_busy_with run)) (slots T)

-- these records were taken over: their ids were drawn, and differ from one another and from those of these activations
pub record AreResumedApart (rs : List Record) (last : ℕ → ℕ) (xs : List Activation) : Type 0 where
  pub drawn : AllByRecursion (λ r. r.id.count ≤ last r.id.namespace) rs
  pub apart : IsDistinct same_record rs
  pub strange : AllByRecursion (λ r. IsApart r.id xs) rs

-- an id differs from those of these records
abbrev pub IsStrange : Id → List Record → Type 0
IsStrange id rs = AllByRecursion (λ r. (same_id id r.id ≡ false) × (same_id r.id id ≡ false)) rs

-- an id that was drawn for a fire is that of no activation, and of no record of a fire or of an earlier run
abbrev pub IsFiringApart : Option Id → List Record → List Record → (ℕ → ℕ) → List Activation → Type 0
IsFiringApart None fired resumed last xs = Unit {0}
IsFiringApart (Some id) fired resumed last xs = (id.count ≤ last id.namespace) × (IsApart id xs × (IsStrange id fired × IsStrange id resumed))

-- ids of fires were drawn, and differ from one another, from those of these activations, and from those of records of an earlier run; so
-- does the id of a fire that isn't recorded yet
pub record AreFiresApart (fired : List Record) (firing : Option Id) (resumed : List Record) (last : ℕ → ℕ) (xs : List Activation) : Type 0 where
  pub recorded : AreResumedApart fired last xs
  pub foreign : AllByRecursion (λ r. IsStrange r.id fired) resumed
  pub next : IsFiringApart firing fired resumed last xs

-- no id is accepted twice; counts are drawn upwards, and what has ended or runs was drawn; each accepted id is open or recorded, once; what
-- has ended was accepted; an activation has one live run at most; live runs have numbers of their own, drawn upwards; one last id is known
-- of each namespace; what was taken over was drawn, and isn't accepted again; ids of fires are apart
pub record IsSound (T : Trace) : Type 0 where
  pub apart : AreApart (accepted T)
  pub drawn : AllByRecursion (λ a. a.id.count ≤ last T a.id.namespace) (accepted T)
  pub ended_drawn : AllByRecursion (λ e. e.id.count ≤ last T e.id.namespace) (records T)
  pub live_drawn : AllByRecursion (λ r. r.id.count ≤ last T r.id.namespace) (live T)
  pub once : (id : Id) → times id (ids_of (open_items T)) + times id (recorded T) ≡ times id (accepted_ids T)
  pub known : EndedWereAccepted T
  pub one : (id : Id) → loads id (live T) ≤ 1
  pub single : (run : ℕ) → bearers run (live T) ≤ 1
  pub numbered : AllByRecursion (λ r. r.number ≤ run_count T) (live T)
  pub slotted : AreSlotsSound T
  pub namespaces : IsDistinct same_namespace (trace.drawn T)
  pub resumed : AreResumedApart (trace.resumed T) (last T) (accepted T)
  pub fires : AreFiresApart (trace.fired T) (trace.firing T) (trace.resumed T) (last T) (accepted T)

-- a run is live exactly where a slot is busy with it, and then one is
abbrev pub StandInSlots : Trace → Type 0
StandInSlots T = (run : ℕ) → (is_some (live_run T run) ≡ is_some (first_with (is_busy_with run) (slots T))) × (tally (has (is_busy_with run)) (slots T) ≤ 1)

-- a floor has the state of the trace, which is sound
pub record Stands (v : Shown) (T : Trace) : Type 0 where
  pub is : v ≡ shown T
  pub sound : IsSound T

-- items are added: where the floor had the state of a trace, it has the state of that trace with the items in front, the newest first
abbrev pub Grows : Shown → Shown → (Trace → Trace) → Type 0
Grows old new items = (T : Trace) → Stands old T → Stands new (items T ++ T)

-- the three lists of a floor are those of the trace
pub record Shows (v : Shown) (T : Trace) : Type 0 where
  pub waiting : waiting_of v ≡ waiting T
  pub running : running_of v ≡ running T
  pub recorded : recorded_of v ≡ recorded T
