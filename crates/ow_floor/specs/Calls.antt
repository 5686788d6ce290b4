-- What the calls of a floor answer, and which items they add, the newest first.
use Rattle.std.specs.Prelude.{◌≡◌, ◌==◌, ◌+◌, ◌-◌, ◌++◌, ◌≤◌, ℕ, Bool, true, false, List, [], ◌∷◌, Option, Some, None, length, if◌then◌else◌, is_some, is_none, map, nat_lt, ◌&&◌, slice_get, Result, Ok, Err, IsSome}
use Rattle.std.specs.List.{find, filter}
use Rattle.std.specs.Ordering.{is_lt}
use Rattle.ow_value.specs.Value.{text_cmp}
use Rattle.ow_traits.specs.declared.replies.RunReply.{RunReply}
use Rattle.ow_traits.specs.declared.replies.RunReply.TheVariants as runs
use Rattle.ow_records.specs.declared.ids.Id.{Id}
use Rattle.ow_records.specs.declared.outcomes.Ending.{Ending}
use Rattle.ow_records.specs.declared.outcomes.Ending.TheVariants.{Replied, Overran, Abandoned, Composed}
use Rattle.ow_records.specs.declared.record.Record.{Record}
use Rattle.ow_records.specs.declared.unrecorded.Unrecorded.{Unrecorded}
use Rattle.ow_records.specs.Record.{record_of}
use Rattle.ow_records.specs.Records.{id_key, id_numbers, is_due, sorted_by}
use Rattle.ow_records.specs.Unrecorded.{unrecorded_of}
use Rattle.ow_floor.specs.declared.activations.Plan.{Plan}
use Rattle.ow_records.specs.declared.activations.Activation.{Activation}
use Rattle.ow_floor.specs.declared.activations.Open.{Open}
use Rattle.ow_floor.specs.declared.runs.Run.{Run}
use Rattle.ow_floor.specs.declared.answers.Order.{Order}
use Rattle.ow_floor.specs.declared.answers.Order.TheVariants as orders
use Rattle.ow_floor.specs.declared.answers.Idle.{Idle}
use Rattle.ow_floor.specs.declared.answers.Idle.TheVariants.{Empty, NoRoom}
use Rattle.ow_slots.specs.declared.keys.Start.{Start}
use Rattle.ow_slots.specs.declared.states.Slot.{Slot}
use Rattle.ow_slots.specs.Slots.{first_with}
use Rattle.ow_slots.specs.State.{awaits, holds, recorded_of, runs as is_busy_with}
use Rattle.ow_slots.specs.State as states
use Rattle.ow_pool.specs.declared.answers.Head.{Head}
use Rattle.ow_pool.specs.declared.answers.Place.{Place}
use Rattle.ow_pool.specs.declared.answers.Place.TheVariants as places
use Rattle.ow_pool.specs.declared.answers.Unplaced.{Unplaced}
use Rattle.ow_pool.specs.declared.answers.Unplaced.TheVariants as unplaced
use Rattle.ow_pool.specs.Rules.{place_of}
use Rattle.ow_floor.specs.declared.answers.Happening.{Happening}
use Rattle.ow_floor.specs.declared.answers.Happening.TheVariants as happenings
use Rattle.ow_floor.specs.declared.moves.Moved.{Moved}
use Rattle.ow_floor.specs.declared.moves.Moved.TheVariants as moves
use Rattle.ow_floor.specs.declared.answers.Answered.{Answered}
use Rattle.ow_floor.specs.declared.answers.Answered.TheVariants as answers
use Rattle.ow_floor.specs.declared.answers.AnswerRefusal.{AnswerRefusal}
use Rattle.ow_floor.specs.declared.answers.AnswerRefusal.TheVariants.{NoRun, NoMemory, StoreFault}
use Rattle.ow_floor.specs.declared.answers.FloorRefusal.{FloorRefusal}
use Rattle.ow_floor.specs.declared.answers.FloorRefusal.TheVariants as refusals
use Rattle.ow_traits.specs.declared.prewarms.Prewarm.{Prewarm}
use Rattle.ow_floor.specs.declared.answers.Drain.{Drain}
use Rattle.ow_floor.specs.declared.answers.Drain.TheVariants.{Drained, StillOpen}
use Rattle.ow_floor.specs.View.{Shown, head, containers_of, generation_after, generation_in, is_number, is_of, key_of, order_for, prewarm_of, recorded_in}
use Rattle.ow_records.specs.Response.{ResponseView}
use Rattle.ow_floor.specs.Frames.{children_of, is_frame, own_of}
use Rattle.ow_floor.specs.Trace as trace
use Rattle.ow_floor.specs.Trace.{Trace, Item, End, count, last, latest, live, open_item, open_items, shown, shown_records, slots}
use Rattle.ow_floor.specs.Growth.{AreResumable, IsFresh, grown}
use Rattle.ow_floor.specs.Owed.{rises}
use Rattle.ow_floor.specs.Laws.{AreAllRecorded, Grows, IsSound, Stands}

-- ---- what moved, and what is reported of it

-- an acceptance moves its activation, an end its record; of a fire first its id moves and then its record
abbrev pub moved_by : Item → List Moved
moved_by (trace.Accepted a) = moves.Accepted a ∷ []
moved_by (trace.Ended e) = moves.Ended (trace.record_of e) ∷ []
moved_by (trace.Drawn id at) = moves.Drawn id ∷ []
moved_by (trace.Fired r) = moves.Fired r ∷ []
moved_by item = []

-- of items, the earliest first
abbrev pub moved : Trace → List Moved
moved [] = []
moved (item ∷ items) = moved items ++ moved_by item

-- an acceptance reports its id, an end its id and the code of its response. A fire is accepted as its id is drawn, and ends as it is
-- recorded
abbrev pub happening_of : Moved → Happening
happening_of (moves.Accepted a) = happenings.Accepted a.id
happening_of (moves.Ended r) = happenings.Recorded r.id r.response.code
happening_of (moves.Drawn id) = happenings.Accepted id
happening_of (moves.Fired r) = happenings.Recorded r.id r.response.code

abbrev pub happened_of : List Moved → List Happening
happened_of ms = map happening_of ms

-- what is reported of items
abbrev pub happened : Trace → List Happening
happened items = happened_of (moved items)

-- ---- acceptance

-- an id is the next of its namespace
abbrev pub IsNext : Id → Trace → Type 0
IsNext id T = id.count ≡ last T id.namespace + 1

-- the activation that a plan becomes at this moment
abbrev pub activation_of : ℕ → Plan → Activation
activation_of at plan = record {
  id = plan.id;
  at = at;
  namespace = plan.namespace;
  action = plan.effective.action;
  binding = plan.effective.binding;
  params = plan.params;
  subject = plan.subject;
  cause = plan.cause;
  until = plan.until;
  form = plan.form;
  role = plan.role;
  top = plan.top;
  depth = plan.depth;
  own = own_of plan.form plan.effective.params;
}

-- what `accept` adds
abbrev pub accept_items : ℕ → Plan → Trace
accept_items at plan = trace.Accepted (activation_of at plan) ∷ []

-- what is reported of it
abbrev pub happened_accepted : Id → List Happening
happened_accepted id = happenings.Accepted id ∷ []

-- ---- fires

-- what `draw` adds
abbrev pub draw_items : ℕ → Id → Trace
draw_items at id = trace.Drawn id at ∷ []

-- what `fire` adds
abbrev pub fire_items : Record → Trace
fire_items r = trace.Fired r ∷ []

-- ---- orders

-- what is placed for: the first that waits
abbrev pub head_by : Option Open → Option Head
head_by None = None
head_by (Some o) = Some (record { key = key_of o.task })

-- what the rules place
abbrev pub place_on : Shown → Place
place_on v = place_of v.slots (head_by (head v)) v.wants v.pool

-- the run of an activation in a slot
abbrev pub run_of : ℕ → ℕ → Start → ℕ → Activation → List Slot → Run
run_of run slot start at a slots = record {
  number = run;
  slot = slot;
  generation = generation_after slot start slots;
  start = start;
  at = at;
  id = a.id;
  begun = None;
}

abbrev pub idle_of : Unplaced → Idle
idle_of unplaced.Empty = Empty
idle_of unplaced.NoRoom = NoRoom

-- the order of what is placed, for the first that waits
abbrev pub order_by : Place → Option Open → Shown → Order
order_by (places.Run slot start) None v = orders.Nothing Empty
order_by (places.Run slot start) (Some o) v = orders.Run (order_for (v.runs + 1) slot (generation_after slot start v.slots) start o.task)
order_by (places.Prewarm slot kind memory) o v = orders.Prewarm (prewarm_of (v.runs + 1) slot kind memory v.slots)
order_by (places.Remove slots) o v = orders.Remove (containers_of slots v.slots)
order_by (places.Nothing reason) o v = orders.Nothing (idle_of reason)

abbrev pub order_items : Place → Option Open → ℕ → Shown → Trace
order_items (places.Run slot start) None at v = []
order_items (places.Run slot start) (Some o) at v = trace.Ordered (run_of (v.runs + 1) slot start at o.task v.slots) (key_of o.task) ∷ []
order_items (places.Prewarm slot kind memory) o at v = trace.Prewarming (prewarm_of (v.runs + 1) slot kind memory v.slots) at ∷ []
order_items (places.Remove slots) o at v = trace.Removed (containers_of slots v.slots) at ∷ []
order_items (places.Nothing reason) o at v = []

-- the order over the lists of a floor, and its items
abbrev pub order_on : Shown → Order
order_on v = order_by (place_on v) (head v) v

abbrev pub items_on : ℕ → Shown → Trace
items_on at v = order_items (place_on v) (head v) at v

-- an activation waits, or a container is wanted ahead
abbrev pub HasWork : Shown → Type 0
HasWork v = order_on v ≡ orders.Nothing Empty → ⊥

-- what `next` answers
abbrev pub next_order : Trace → Order
next_order T = order_on (shown T)

-- what it adds
abbrev pub next_items : ℕ → Trace → Trace
next_items at T = items_on at (shown T)

-- ---- beginnings, losses, goings

abbrev pub items_if : Bool → Item → Trace
items_if b item = if b then item ∷ [] else []

-- a slot has the run, which may still begin
abbrev pub begins : ℕ → Trace → Bool
begins run T = is_some (first_with (awaits run) (slots T))

-- a slot has the run
abbrev pub loses : ℕ → Trace → Bool
loses run T = is_some (first_with (holds run) (slots T))

abbrev pub goes_by : ℕ → Option Slot → Bool
goes_by generation None = false
goes_by generation (Some s) = states.goes generation s

-- the container of this slot and generation can be gone
abbrev pub goes : ℕ → ℕ → Trace → Bool
goes slot generation T = goes_by generation (slice_get (slots T) slot)

-- nothing is refused where the test holds
abbrev pub refused_unless : Bool → FloorRefusal → Result (Unit {0}) FloorRefusal
refused_unless b refusal = if b then Ok tt else Err refusal

-- what `begun`, `lost` and `gone` answer
abbrev pub begun_answer : ℕ → Trace → Result (Unit {0}) FloorRefusal
begun_answer run T = refused_unless (begins run T) (refusals.NoRun run)

abbrev pub lost_answer : ℕ → Trace → Result (Unit {0}) FloorRefusal
lost_answer run T = refused_unless (loses run T) (refusals.NoRun run)

abbrev pub gone_answer : ℕ → ℕ → Trace → Result (Unit {0}) FloorRefusal
gone_answer slot generation T = refused_unless (goes slot generation T) (refusals.NoSlot slot (generation_in slot (slots T)))

abbrev pub begun_items : ℕ → ℕ → Trace → Trace
begun_items at run T = items_if (begins run T) (trace.Begun run at)

abbrev pub lost_items : ℕ → ℕ → Trace → Trace
lost_items at run T = items_if (loses run T) (trace.Lost run at)

abbrev pub gone_items : ℕ → ℕ → ℕ → Trace → Trace
gone_items at slot generation T = items_if (goes slot generation T) (trace.Gone slot generation at)

-- ---- ends

-- the end of an activation at this moment
abbrev pub ended_by : ℕ → Ending → Option Run → Activation → End
ended_by at ending run task = record { task = task; ending = ending; run = run; at = at }

-- its end, where it is open
abbrev pub end_items : ℕ → Ending → Option Run → Option Open → Trace
end_items at ending run None = []
end_items at ending run (Some o) = trace.Ended (ended_by at ending run o.task) ∷ []

-- ---- replies

-- the container can be used again after an answer
abbrev pub leaves_alive : RunReply → Bool
leaves_alive (runs.Answer text logs) = true
leaves_alive reply = false

-- the answer to a reply: that it is late, where a sweep recorded what the run carries, or what happened
abbrev pub answered_by : ℕ → Option ℕ → List Happening → Answered
answered_by run (Some at) told = answers.Late run at
answered_by run None told = answers.Recorded told

-- what becomes of a reply to a live run: it is late where a sweep recorded what the run carries; else that ends, where it is open
abbrev pub answer_run : ℕ → Run → RunReply → Option ℕ → Option Open → Answered
answer_run at r reply recorded o = answered_by r.number recorded (happened (end_items at (Replied reply) (Some r) o))

abbrev pub run_by : Option Slot → Option Run → Option Run
run_by None r = None
run_by (Some s) r = r

-- the live run of this number with which a slot is busy
abbrev pub busy_run : ℕ → Shown → Option Run
busy_run run v = run_by (first_with (is_busy_with run) v.slots) (find (is_number run) v.live)

-- and of any reply: none where no slot is busy with the run
abbrev pub answer_by : ℕ → ℕ → RunReply → Shown → Option Run → Option Answered
answer_by at run reply v None = None
answer_by at run reply v (Some r) = Some (answer_run at r reply (recorded_in run v.slots) (find (is_of r.id) v.open_items))

-- at which moment a sweep recorded what the run carries, where one did; none where no slot is busy with the run
abbrev pub recorded_with : ℕ → Shown → Option Run → Option (Option ℕ)
recorded_with run v None = None
recorded_with run v (Some r) = Some (recorded_in run v.slots)

abbrev pub reply_items : ℕ → ℕ → RunReply → Shown → Option Run → Trace
reply_items at run reply v None = []
reply_items at run reply v (Some r) = trace.Answered run (leaves_alive reply) at ∷ end_items at (Replied reply) (Some r) (find (is_of r.id) v.open_items)

-- the answer to a runner's reply
abbrev pub answer_to : ℕ → ℕ → RunReply → Trace → Option Answered
answer_to at run reply T = answer_by at run reply (shown T) (busy_run run (shown T))

abbrev pub reply_recorded : ℕ → Trace → Option (Option ℕ)
reply_recorded run T = recorded_with run (shown T) (busy_run run (shown T))

-- what it adds: the end of what the run carries, and then the reply
abbrev pub answered_items : ℕ → ℕ → RunReply → Trace → Trace
answered_items at run reply T = reply_items at run reply (shown T) (busy_run run (shown T))

-- the answer to a reply by these two: none where no slot is busy with the run
abbrev pub answer_of : ℕ → Option (Option ℕ) → List Happening → Option Answered
answer_of run None told = None
answer_of run (Some recorded) told = Some (answered_by run recorded told)

-- the answer by value, which hands a reply back that isn't taken
abbrev pub answer_or : ℕ → RunReply → Option Answered → Result Answered AnswerRefusal
answer_or run reply None = Err (NoRun run reply)
answer_or run reply (Some answered) = Ok answered

-- a refusal hands back the run's number and the reply
abbrev pub HandsBack : ℕ → RunReply → AnswerRefusal → Type 0
HandsBack run reply (NoRun number back) = (number ≡ run) × (back ≡ reply)
HandsBack run reply (NoMemory back) = back ≡ reply
HandsBack run reply (StoreFault back) = back ≡ reply

abbrev pub is_store_fault : AnswerRefusal → Bool
is_store_fault (StoreFault back) = true
is_store_fault refusal = false

-- it is out of memory only where the run is live
abbrev pub AnswersSo : Shown → ℕ → ℕ → RunReply → Result Answered AnswerRefusal → Type 0
AnswersSo old at run reply (Err (NoMemory back)) = (T : Trace) → Stands old T → IsSome (busy_run run (shown T))
AnswersSo old at run reply result = (T : Trace) → Stands old T → result ≡ answer_or run reply (answer_to at run reply T)

abbrev pub GrowsBy : Shown → Shown → (Trace → Trace) → Result Answered AnswerRefusal → Type 0
GrowsBy old new items (Err (NoMemory back)) = Unit {0}
GrowsBy old new items result = Grows old new items

-- the number of a refusal
abbrev pub answer_number : AnswerRefusal → ℕ
answer_number (NoRun run reply) = 29
answer_number (NoMemory reply) = 0
answer_number (StoreFault reply) = 0

-- ---- sweeps

-- a run is late once it has taken more than the time limit
abbrev pub is_late : ℕ → Run → Activation → Bool
is_late at r task = nat_lt task.action.limits.timeout (at - r.at)

-- the end of what a run carries that a slot is busy with, where it is open, no sweep recorded it and it is late
abbrev pub late_items : ℕ → Run → Option Slot → Option Open → Trace
late_items at r None o = []
late_items at r (Some s) None = []
late_items at r (Some s) (Some o) = if is_none (recorded_of s.state) && is_late at r o.task then end_items at Overran (Some r) (Some o) else []

abbrev pub late_of : ℕ → Run → Shown → Trace
late_of at r v = late_items at r (first_with (is_busy_with r.number) v.slots) (find (is_of r.id) v.open_items)

-- the ends of what these runs carry, where they are late, one after another
abbrev pub overrun_items : ℕ → List Run → Shown → Trace
overrun_items at [] v = []
overrun_items at (r ∷ rs) v = overrun_items at rs (grown (late_of at r v) v) ++ late_of at r v

-- the ends that a sweep makes
abbrev pub swept_ends : ℕ → Trace → Trace
swept_ends at T = overrun_items at (live T) (shown T)

-- what `sweep` adds: each activation whose live run is late ends, by the runs' orders, and then it is swept
abbrev pub swept_items : ℕ → Trace → Trace
swept_items at T = trace.Swept at ∷ swept_ends at T

-- the end of what the first of these runs carries that is late, if one is
abbrev pub first_items : Trace → Trace → Trace
first_items [] rest = rest
first_items (item ∷ items) rest = item ∷ items

abbrev pub first_late : ℕ → List Run → Shown → Trace
first_late at [] v = []
first_late at (r ∷ rs) v = first_items (late_of at r v) (first_late at rs v)

-- what `overrun` adds: the end of what the first late run carries, by the runs' orders
abbrev pub overrun_first : ℕ → Trace → Trace
overrun_first at T = first_late at (live T) (shown T)

abbrev pub has_items : Trace → Bool
has_items [] = false
has_items (item ∷ items) = true

-- what `note_swept` adds
abbrev pub note_swept_items : ℕ → Trace
note_swept_items at = trace.Swept at ∷ []

-- ---- composites

-- the end of a composite, with the children that its frame has
abbrev pub composed_items : ℕ → Id → ResponseView → Shown → Trace
composed_items at id r v = end_items at (Composed r (children_of (find (is_frame id) v.frames))) None (find (is_of id) v.open_items)

-- what `compose` adds: the end of the composite, where it is open
abbrev pub compose_items : ℕ → Id → ResponseView → Trace → Trace
compose_items at id r T = composed_items at id r (shown T)

-- ---- openings

-- each of these ends as abandoned, one after another
abbrev pub abandoned_items : ℕ → List Open → Trace
abandoned_items at [] = []
abandoned_items at (o ∷ os) = abandoned_items at os ++ end_items at Abandoned None (Some o)

-- before the first whose id is greater, by the numbers of namespaces and then by counts
abbrev pub put_by_id : Open → List Open → List Open
put_by_id o [] = o ∷ []
put_by_id o (x ∷ xs) = if is_lt (text_cmp (id_numbers o.task.id) (id_numbers x.task.id)) then o ∷ x ∷ xs else x ∷ put_by_id o xs

-- by their ids, in the order of their texts
abbrev pub sorted_by_id : List Open → List Open
sorted_by_id [] = []
sorted_by_id (o ∷ os) = put_by_id o (sorted_by_id os)

-- the ends that `abandon` makes: of all that is open, by id
abbrev pub abandoned_ends : ℕ → Trace → Trace
abandoned_ends at T = abandoned_items at (sorted_by_id (open_items T))

-- what it adds: these, and then no run is live
abbrev pub abandon_items : ℕ → Trace → Trace
abandon_items at T = trace.Reopened at ∷ abandoned_ends at T

-- the record of an open activation that is abandoned at this moment
abbrev pub record_abandoned : ℕ → Open → Record
record_abandoned at o = record_of o.task Abandoned None None at

-- what `resume` adds: these last ids and records of an earlier run
abbrev pub resume_items : List Id → List Record → Trace
resume_items counts rs = trace.Resumed counts rs ∷ []

-- ---- archives

-- the records whose end is at most this moment, by their ids
abbrev pub due_by : ℕ → List Record → List Record
due_by until rs = sorted_by id_key (filter (is_due until) rs)

-- what `due` answers: of the records that are shown
abbrev pub due_in : ℕ → Trace → List Record
due_in until T = due_by until (shown_records T)

-- what `archive` adds. It has the moment of what happened before
abbrev pub archive_items : ℕ → Trace → Trace
archive_items until T = trace.Archived until (latest T) ∷ []

-- ---- what is kept of an activation that has not ended

abbrev pub unrecorded_by : Option Open → Option Unrecorded
unrecorded_by None = None
unrecorded_by (Some o) = Some (unrecorded_of o.task)

-- of the activation of this id: nothing where it wasn't accepted, or has ended
abbrev pub unrecorded_in : Id → Trace → Option Unrecorded
unrecorded_in id T = unrecorded_by (open_item T id)

-- ---- drains

abbrev pub drain_by : ℕ → ℕ → Drain
drain_by busy n = if busy == 0 then Drained n else StillOpen busy

-- what `drain` answers: how many were accepted since the last opening where all have ended, else how many have not
abbrev pub drain_answer : Trace → Drain
drain_answer T = drain_by (length (open_items T)) (count T)

-- where all have ended, this many were accepted since the last opening, and each accepted activation is recorded
abbrev pub AllRecorded : Trace → Drain → Type 0
AllRecorded T (Drained n) = (n ≡ count T) × AreAllRecorded T
AllRecorded T (StillOpen n) = Unit {0}

-- ---- each call keeps the trace sound
pub record KeepSound : Type 0 where
  pub start : (pool : ℕ) (wants : List Prewarm) → IsSound (trace.Opened pool wants ∷ [])
  pub resume : (counts : List Id) (rs : List Record) (T : Trace) → IsFresh (shown T) → AreResumable counts rs → IsSound T → IsSound (resume_items counts rs ++ T)
  pub accept : (at : ℕ) (plan : Plan) (T : Trace) → IsNext plan.id T → IsSound T → IsSound (accept_items at plan ++ T)
  pub draw : (at : ℕ) (id : Id) (T : Trace) → IsNext id T → IsSound T → IsSound (draw_items at id ++ T)
  pub fire : (r : Record) (T : Trace) → trace.firing T ≡ Some r.id → IsSound T → IsSound (fire_items r ++ T)
  pub next : (at : ℕ) (T : Trace) → IsSound T → IsSound (next_items at T ++ T)
  pub begun : (at run : ℕ) (T : Trace) → IsSound T → IsSound (begun_items at run T ++ T)
  pub answered : (at run : ℕ) (reply : RunReply) (T : Trace) → IsSound T → IsSound (answered_items at run reply T ++ T)
  pub lost : (at run : ℕ) (T : Trace) → IsSound T → IsSound (lost_items at run T ++ T)
  pub gone : (at slot generation : ℕ) (T : Trace) → IsSound T → IsSound (gone_items at slot generation T ++ T)
  pub sweep : (at : ℕ) (T : Trace) → IsSound T → IsSound (swept_items at T ++ T)
  pub overrun : (at : ℕ) (T : Trace) → IsSound T → IsSound (overrun_first at T ++ T)
  pub note_swept : (at : ℕ) (T : Trace) → IsSound T → IsSound (note_swept_items at ++ T)
  pub compose : (at : ℕ) (id : Id) (r : ResponseView) (T : Trace) → IsSound T → IsSound (compose_items at id r T ++ T)
  pub drain : (at : ℕ) (T : Trace) → IsSound T → IsSound (trace.Drained at ∷ T)
  pub abandon : (at : ℕ) (T : Trace) → IsSound T → IsSound (abandon_items at T ++ T)
  pub archive : (until : ℕ) (T : Trace) → IsSound T → IsSound (archive_items until T ++ T)

-- how much the items of each call raise what is owed
pub record RaisesLittle : Type 0 where
  pub resume : (counts : List Id) (rs : List Record) → rises (resume_items counts rs) ≡ 0
  pub accept : (at : ℕ) (plan : Plan) → rises (accept_items at plan) ≡ 0
  pub draw : (at : ℕ) (id : Id) → rises (draw_items at id) ≡ 0
  pub fire : (r : Record) → rises (fire_items r) ≡ 0
  pub next : (at : ℕ) (T : Trace) → rises (next_items at T) ≤ 3
  pub answered : (at run : ℕ) (reply : RunReply) (T : Trace) → rises (answered_items at run reply T) ≡ 0
  pub sweep : (at : ℕ) (T : Trace) → rises (swept_items at T) ≡ 0
  pub overrun : (at : ℕ) (T : Trace) → rises (overrun_first at T) ≡ 0
  pub note_swept : (at : ℕ) → rises (note_swept_items at) ≡ 0
  pub compose : (at : ℕ) (id : Id) (r : ResponseView) (T : Trace) → rises (compose_items at id r T) ≡ 0
  pub abandon : (at : ℕ) (T : Trace) → rises (abandon_items at T) ≡ 0
  pub archive : (until : ℕ) (T : Trace) → rises (archive_items until T) ≡ 0
