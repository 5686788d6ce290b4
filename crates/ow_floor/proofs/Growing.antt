-- How a floor grows by what is done to the kept lists.
use Rattle.std.proofs.Common.{◌≡◌, ◌+◌, ◌-◌, ◌++◌, ◌&&◌, ℕ, Bool, true, false, cond, not, List, [], ◌∷◌, Option, Some, None, length, get_or, refl, sym, ap, ◌∙◌, arith, subst, length-append, append_assoc, append-nil, map}
use Rattle.std.specs.List.{find, IsDistinct}
use Rattle.std.specs.Prelude.{is_err, is_none, is_some, slice_get, OnErr, OnOk, Result, Ok, Err}
use Rattle.ow_records.specs.declared.outcomes.Ending.{Ending}
use Rattle.ow_records.specs.declared.outcomes.Ending.TheVariants.{Abandoned, Composed, Replied, Overran}
use Rattle.ow_records.specs.declared.ids.Id.{Id}
use Rattle.ow_records.specs.declared.record.Record.{Record}
use Rattle.ow_records.specs.declared.unrecorded.Unrecorded.{Unrecorded}
use Rattle.ow_traits.specs.declared.replies.RunReply.{RunReply}
use Rattle.ow_slots.specs.declared.refusal.SlotRefusal.{SlotRefusal}
use Rattle.ow_slots.specs.declared.refusal.SlotRefusal.TheVariants as slots
use Rattle.ow_slots.specs.declared.states.Slot.{Slot}
use Rattle.ow_slots.specs.Slots.{first_with, gone_answer, run_answer}
use Rattle.ow_slots.specs.State.{awaits, goes, holds, recorded_of, runs}
use Rattle.ow_slot_laws.specs.Life as lives
use Rattle.ow_slot_laws.specs.Life.{Event}
use Rattle.ow_floor.specs.declared.activations.Plan.{Plan}
use Rattle.ow_floor.specs.declared.activations.Open.{Open}
use Rattle.ow_floor.specs.declared.moves.Moved.{Moved}
use Rattle.ow_floor.specs.declared.answers.Order.{Order}
use Rattle.ow_floor.specs.declared.lists.Berth.{Berth}
use Rattle.ow_floor.specs.declared.runs.Run.{Run}
use Rattle.ow_floor.specs.View.{Shown, is_number, is_of, last_of, recorded_in, same_open}
use Rattle.ow_floor.specs.Places.{recorded_there}
use Rattle.ow_floor.specs.Trace.{Trace, Accepted, Archived, Answered as replied, Begun, Drained, Gone, Lost, Reopened, Swept, last, live, open_items, shown, shown_records}
use Rattle.ow_floor.specs.Growth.{AreResumable, IsFresh, grow, grown}
use Rattle.ow_floor.specs.Laws.{Grows, Stands}
use Rattle.ow_floor.specs.Calls.{abandon_items, abandoned_ends, abandoned_items, accept_items, archive_items, activation_of, answer_by, answer_of, answer_to, answered_by, answered_items, begun_items, busy_run, compose_items, composed_items, first_late, has_items, note_swept_items, overrun_first, drain_answer, drain_by, end_items, goes_by, gone_items, happened, happened_of, is_late, items_if, items_on, late_items, late_of, leaves_alive, lost_items, moved, next_items, next_order, order_on, overrun_items, record_abandoned, recorded_with, reply_items, reply_recorded, resume_items, run_by, sorted_by_id, swept_ends, swept_items, unrecorded_by, unrecorded_in, draw_items, fire_items}
use Rattle.ow_floor.specs.Store.{IsCell, IsGood, IsGoodPast, Store, answered_in, archived_in, at_moment, drained_in, event_in, opens, reopened_in, resumed_in, run_in, run_put, show, show_past, taken_back, drawn_in, fired_in}
use Rattle.ow_records.specs.Response.{ResponseView}
use Rattle.ow_floor.specs.Frames.{children_of, is_frame}
use Rattle.ow_floor.specs.Ends.{AreAbandoned, IsEndedRun, IsFirstSwept, IsMade, IsRunBegun, IsRunLost, sweeps}
use Rattle.ow_floor.proofs.Coming.{right_begun, right_composed, right_gone, right_overran, right_lost, right_next, right_reopened, right_reply, right_swept}
use Rattle.ow_floor.proofs.Drawn.{drawn_last}
use Rattle.ow_floor.proofs.Making.{moved_append}
use Rattle.ow_floor.proofs.Numbers.{number_is}
use Rattle.ow_floor.proofs.Results.{sure}
use Rattle.ow_floor.proofs.Serving.{is_order, within_kept}
use Rattle.ow_floor.proofs.Showing.{good_event, good_marked, good_put, show_answered, show_archived, show_reopened, show_resumed, show_drawn, show_fired}
use Rattle.ow_floor.proofs.Soundness.{grows}
use Rattle.ow_floor.proofs.Apart.{open_distinct}

-- what is made, and that the kept lists are good
abbrev pub Makes : Store → Store → (Trace → Trace) → Type 0
Makes R S items = Grows (show R) (show S) items × IsGood S

-- ---- acceptance

pub made_accept : (R S : Store) (at : ℕ) (plan : Plan) → plan.id.count ≡ last_of R.drawn plan.id.namespace + 1 → show S ≡ grow (Accepted (activation_of at plan)) (show R)
    → Grows (show R) (show S) (λ T. accept_items at plan)
made_accept R S at plan next is =
    grows (λ v. accept_items at plan) (show R) (show S)
    (λ T st. ((next ∙ ap (λ (v : Shown). last_of v.drawn plan.id.namespace + 1) st.is, tt), tt)) is

-- ---- fires

pub grows_draw : (R : Store) (at : ℕ) (id : Id) → id.count ≡ last_of R.drawn id.namespace + 1 → Grows (show R) (show (drawn_in at id R)) (λ T. draw_items at id)
grows_draw R at id next =
    grows (λ v. draw_items at id) (show R) (show (drawn_in at id R))
    (λ T st. ((next ∙ ap (λ (v : Shown). last_of v.drawn id.namespace + 1) st.is, tt), tt)) (show_drawn R at id)

pub grows_fire : (R : Store) (r : Record) → IsGood R → R.marks.firing ≡ Some r.id → Grows (show R) (show (fired_in r R)) (λ T. fire_items r)
grows_fire R r good drawn =
    grows (λ v. fire_items r) (show R) (show (fired_in r R))
    (λ T st. ((ap (λ (v : Shown). v.firing) (sym st.is) ∙ drawn, tt), tt)) (show_fired R r good)

-- ---- orders

-- whatever order is carried out over the lists, they grow by it
pub grows_next : (R S : Store) (at : ℕ) → show S ≡ grown (items_on at (show R)) (show R) → Grows (show R) (show S) (λ T. next_items at T)
grows_next R S at made = grows (items_on at) (show R) (show S) (λ T st. right_next at (shown T) st.sound.slotted.within) made

pub told_next : (R : Store) (order : Order) → order ≡ order_on (show R) → (T : Trace) → Stands (show R) T → order ≡ next_order T
told_next R order is T st = is ∙ ap order_on st.is

-- ---- beginnings, losses, goings

pub grows_begun : (R S : Store) (at run : ℕ) (b : Bool) → b ≡ is_some (first_with (awaits run) R.slots) → show S ≡ grown (items_if b (Begun run at)) (show R)
    → Grows (show R) (show S) (λ T. begun_items at run T)
grows_begun R S at run b is made =
    grows (λ v. items_if (is_some (first_with (awaits run) v.slots)) (Begun run at)) (show R) (show S)
    (λ T st. right_begun at run (shown T) st.sound.slotted.within) (made ∙ ap (λ c. grown (items_if c (Begun run at)) (show R)) is)

pub grows_lost : (R S : Store) (at run : ℕ) (b : Bool) → b ≡ is_some (first_with (holds run) R.slots) → show S ≡ grown (items_if b (Lost run at)) (show R)
    → Grows (show R) (show S) (λ T. lost_items at run T)
grows_lost R S at run b is made =
    grows (λ v. items_if (is_some (first_with (holds run) v.slots)) (Lost run at)) (show R) (show S)
    (λ T st. right_lost at run (shown T) st.sound.slotted.within) (made ∙ ap (λ c. grown (items_if c (Lost run at)) (show R)) is)

pub grows_gone : (R S : Store) (at slot generation : ℕ) (b : Bool) → b ≡ goes_by generation (slice_get R.slots slot) → show S ≡ grown (items_if b (Gone slot generation at)) (show R)
    → Grows (show R) (show S) (λ T. gone_items at slot generation T)
grows_gone R S at slot generation b is made =
    grows (λ v. items_if (goes_by generation (slice_get v.slots slot)) (Gone slot generation at)) (show R) (show S)
    (λ T st. right_gone at slot generation (shown T) st.sound.slotted.within) (made ∙ ap (λ c. grown (items_if c (Gone slot generation at)) (show R)) is)

-- ---- replies

pub same_berth : (R : Store) (run k : ℕ) (c : IsCell run_in (is_number run) R.runs k) (b : Berth) → get_or R.runs k None ≡ Some b → b ≡ c.item
same_berth R run k c b here = let e : Some b ≡ Some c.item = sym here ∙ c.here None in cc

pub made_reply : (R S U : Store) (at run k : ℕ) (reply : RunReply) (before after : List Moved) (s : Slot) (c : IsCell run_in (is_number run) R.runs k) → first_with (runs run) R.slots ≡ Some s
    → IsEndedRun at c.item.run reply R S before after → U ≡ answered_in at run (leaves_alive reply) k S
    → Makes R U (λ T. answered_items at run reply T)
    × ((T : Trace) → Stands (show R) T → (Some (recorded_of s.state) ≡ reply_recorded run T) × (after ≡ before ++ moved (answered_items at run reply T)))
made_reply R S U at run k reply before after s c busy e is =
    let there' : IsCell run_in (is_number run) S.runs k = subst (λ rs. IsCell run_in (is_number run) rs k) (sym e.runs) c in
    let items : reply_items at run reply (show R) (busy_run run (show R))
    ≡ replied run (leaves_alive reply) at ∷ end_items at (Replied reply) (Some c.item.run) (find (is_of c.item.run.id) (opens R.spots R.tasks))
    = rw (busy, c.found) refl in
    let shows : show U ≡ grown (reply_items at run reply (show R) (busy_run run (show R))) (show R)
    = ap show is ∙ (show_answered S at run k (leaves_alive reply) there' ∙ (ap (grow (replied run (leaves_alive reply) at)) e.shows ∙ ap (λ items. grown items (show R)) (sym items))) in
    let told : Some (recorded_of s.state) ≡ recorded_with run (show R) (busy_run run (show R)) = rw (busy, c.found) (rw busy refl) in
    let noted : after ≡ before ++ moved (reply_items at run reply (show R) (busy_run run (show R)))
    = e.noted ∙ (ap (λ (ms : List Moved). before ++ ms) (sym (append-nil (moved (end_items at (Replied reply) (Some c.item.run) (find (is_of c.item.run.id) (opens R.spots R.tasks))))))
    ∙ ap (λ (items : Trace). before ++ moved items) (sym items)) in (
      (
        grows (λ v. reply_items at run reply v (busy_run run v)) (show R) (show U) (λ T st. right_reply at run reply T st.sound) shows,
        subst (λ (V : Store). IsGood V) (sym is)
            (good_event (run_put k None S) at (lives.Answered run (leaves_alive reply) at) (within_kept (lives.Answered run (leaves_alive reply) at) S.slots S.pool refl e.good.pool) (good_put S k None e.good)),
      ),
      λ T st. (
        told ∙ ap (λ (v : Shown). recorded_with run v (busy_run run v)) st.is,
        noted ∙ ap (λ (v : Shown). before ++ moved (reply_items at run reply v (busy_run run v))) st.is,
      ),
    )

pub made_replied : (R S U : Store) (at run k : ℕ) (reply : RunReply) (before after : List Moved) (s : Slot) (b : Berth) (c : IsCell run_in (is_number run) R.runs k)
    → first_with (runs run) R.slots ≡ Some s → get_or R.runs k None ≡ Some b → IsEndedRun at b.run reply R S before after → U ≡ answered_in at run (leaves_alive reply) k S
    → Makes R U (λ T. answered_items at run reply T)
    × ((T : Trace) → Stands (show R) T → (Some (recorded_of s.state) ≡ reply_recorded run T) × (after ≡ before ++ moved (answered_items at run reply T)))
made_replied R S U at run k reply before after s b c busy here e is =
    made_reply R S U at run k reply before after s c busy (subst (λ (x : Berth). IsEndedRun at x.run reply R S before after) (same_berth R run k c b here) e) is

-- a live run is one of those of its number
busy_found : (s : Option Slot) (o : Option Run) (r : Run) → run_by s o ≡ Some r → o ≡ Some r
busy_found None o r is = cc
busy_found (Some s) o r is = is

answer_by_moves : (at run : ℕ) (reply : RunReply) (v : Shown) (o : Option Run) → busy_run run v ≡ o
    → answer_of run (recorded_with run v o) (happened (reply_items at run reply v o)) ≡ answer_by at run reply v o
answer_by_moves at run reply v None is = refl
answer_by_moves at run reply v (Some r) is =
    let number : r.number ≡ run = number_is run r v.live (busy_found (first_with (runs run) v.slots) (find (is_number run) v.live) r is) in
    let ends = moved (end_items at (Replied reply) (Some r) (find (is_of r.id) v.open_items)) in
    ap (λ (ms : List Moved). Some (answered_by run (recorded_in run v.slots) (happened_of ms))) (append-nil ends)
    ∙ ap (λ n. Some (answered_by n (recorded_in run v.slots) (happened_of ends))) (sym number)

-- what a reply is answered, by what was recorded before and by what moved
pub answer_told : (at run : ℕ) (reply : RunReply) (T : Trace) → answer_of run (reply_recorded run T) (happened (answered_items at run reply T)) ≡ answer_to at run reply T
answer_told at run reply T = answer_by_moves at run reply (shown T) (busy_run run (shown T)) refl

-- ---- sweeps, openings, drains

-- an item that moves nothing reports nothing
pub told_unmoved : (ms : List Moved) (items : Trace) → ms ≡ moved items ++ [] → happened_of ms ≡ happened items
told_unmoved ms items is = ap happened_of (is ∙ append-nil (moved items))

pub made_sweep : (R S : Store) (at : ℕ) (before after : List Moved) → IsMade (sweeps at R) R S before after → Makes R (at_moment at S) (λ T. swept_items at T)
made_sweep R S at before after made = (
  grows (λ v. Swept at ∷ overrun_items at v.live v) (show R) (show (at_moment at S)) (λ T st. right_swept at (shown T) st.sound.slotted.within st.sound.single) (ap (grow (Swept at)) made.shows),
  (good_marked S at made.good).0,
)

-- the open activations of a floor that has the state of a sound trace differ
shown_distinct : (v : Shown) (T : Trace) → Stands v T → IsDistinct same_open v.open_items
shown_distinct v T st = subst (λ (u : Shown). IsDistinct same_open u.open_items) (sym st.is) (open_distinct T st.sound)

pub grows_abandon : (R S : Store) (at : ℕ) (before after : List Moved) → AreAbandoned at R S before after → Grows (show R) (show (reopened_in at S)) (λ T. abandon_items at T)
grows_abandon R S at before after made T st =
    let done = made (shown_distinct (show R) T st) in
    grows (λ v. Reopened at ∷ abandoned_items at (sorted_by_id v.open_items)) (show R) (show (reopened_in at S))
    (λ U us. right_reopened at (shown U) us.sound.slotted.within (open_distinct U us.sound)) (show_reopened S at ∙ ap (grow (Reopened at)) done.shows) T st

-- an item that moves nothing adds nothing to what moved
unmoved : (before after : List Moved) (items : Trace) → after ≡ before ++ moved items → after ≡ before ++ (moved items ++ [])
unmoved before after items is = is ∙ ap (λ (ms : List Moved). before ++ ms) (sym (append-nil (moved items)))

pub abandon_moved : (R S : Store) (at : ℕ) (before after : List Moved) → AreAbandoned at R S before after → (T : Trace) → Stands (show R) T → after ≡ before ++ moved (abandon_items at T)
abandon_moved R S at before after made T st =
    unmoved before after (abandoned_ends at T)
    ((made (shown_distinct (show R) T st)).noted ∙ ap (λ (v : Shown). before ++ moved (abandoned_items at (sorted_by_id v.open_items))) st.is)

abandoned_shown : (at : ℕ) (os : List Open) (T : Trace) → shown_records (abandoned_items at os ++ T) ≡ shown_records T ++ map (record_abandoned at) os
abandoned_shown at [] T = sym (append-nil (shown_records T))
abandoned_shown at (o ∷ os) T =
    let last = end_items at Abandoned None (Some o) in
    ap shown_records (append_assoc (abandoned_items at os) last T)
    ∙ (abandoned_shown at os (last ++ T) ∙ append_assoc (shown_records T) (record_abandoned at o ∷ []) (map (record_abandoned at) os))

-- the records of what was abandoned come after the others
pub abandon_recorded : (v w : Shown) (at : ℕ) → Grows v w (λ T. abandon_items at T) → (T : Trace) → Stands v T → w.records ≡ shown_records T ++ map (record_abandoned at) (sorted_by_id (open_items T))
abandon_recorded v w at grows T st = ap (λ (u : Shown). u.records) (grows T st).is ∙ abandoned_shown at (sorted_by_id (open_items T)) T

-- ---- the first late run, and what is swept

pub grows_overrun : (R S : Store) (at : ℕ) (late : Bool) (before after : List Moved) → IsFirstSwept at late R S before after → Grows (show R) (show S) (λ T. overrun_first at T)
grows_overrun R S at late before after x =
    grows (λ v. first_late at v.live v) (show R) (show S) (λ T st. right_overran at (shown T) st.sound.slotted.within st.sound.single) x.made.shows

pub overrun_moved : (R S : Store) (at : ℕ) (late : Bool) (before after : List Moved) → IsFirstSwept at late R S before after → (T : Trace) → Stands (show R) T → after ≡ before ++ moved (overrun_first at T)
overrun_moved R S at late before after x T st = x.made.noted ∙ ap (λ (v : Shown). before ++ moved (first_late at v.live v)) st.is

pub overrun_told : (R S : Store) (at : ℕ) (late : Bool) (before after : List Moved) → IsFirstSwept at late R S before after → (T : Trace) → Stands (show R) T → late ≡ has_items (overrun_first at T)
overrun_told R S at late before after x T st = x.tells ∙ ap (λ (v : Shown). has_items (first_late at v.live v)) st.is

pub grows_swept : (R : Store) (at : ℕ) → Grows (show R) (show (at_moment at R)) (λ T. note_swept_items at)
grows_swept R at = grows (λ v. note_swept_items at) (show R) (show (at_moment at R)) (λ T st. ((tt, tt), tt)) refl

-- ---- composites

pub grows_compose : (R S : Store) (at : ℕ) (id : Id) (r : ResponseView) (before after : List Moved) → IsMade (composed_items at id r (show R)) R S before after → Grows (show R) (show S) (λ T. compose_items at id r T)
grows_compose R S at id r before after x = grows (composed_items at id r) (show R) (show S) (λ T st. right_composed at id r (shown T)) x.shows

pub compose_moved : (R S : Store) (at : ℕ) (id : Id) (r : ResponseView) (before after : List Moved) → IsMade (composed_items at id r (show R)) R S before after
    → (T : Trace) → Stands (show R) T → after ≡ before ++ moved (compose_items at id r T)
compose_moved R S at id r before after x T st = x.noted ∙ ap (λ (v : Shown). before ++ moved (composed_items at id r v)) st.is

-- an end leaves which fire isn't recorded yet
firing_ended : (at : ℕ) (ending : Ending) (run : Option Run) (o : Option Open) (v : Shown) → (grown (end_items at ending run o) v).firing ≡ v.firing
firing_ended at ending run None v = refl
firing_ended at ending run (Some o) v = refl

pub compose_firing : (R S : Store) (at : ℕ) (id : Id) (r : ResponseView) (before after : List Moved) → IsMade (composed_items at id r (show R)) R S before after → S.marks.firing ≡ R.marks.firing
compose_firing R S at id r before after x = ap (λ (v : Shown). v.firing) x.shows ∙ firing_ended at (Composed r (children_of (find (is_frame id) R.frames))) None (find (is_of id) (opens R.spots R.tasks)) (show R)

-- ---- what is taken over

pub grows_resume : (R : Store) (counts : List Id) (rs : List Record) → IsFresh (show R) → AreResumable counts rs → Grows (show R) (show (resumed_in counts rs R)) (λ T. resume_items counts rs)
grows_resume R counts rs fresh resumable =
    grows (λ v. resume_items counts rs) (show R) (show (resumed_in counts rs R))
    (λ T st. (((subst (λ (v : Shown). IsFresh v) st.is fresh, resumable), tt), tt)) (show_resumed R counts rs)

-- ---- archives

pub grows_archive : (R : Store) (until : ℕ) → Grows (show R) (show (archived_in until R)) (λ T. archive_items until T)
grows_archive R until = grows (λ v. Archived until v.latest ∷ []) (show R) (show (archived_in until R)) (λ T st. ((tt, tt), tt)) (show_archived R until)

-- ---- what is kept of what is open

pub unrecorded_told : (v : Shown) (id : Id) (u : Option Unrecorded) → u ≡ unrecorded_by (find (is_of id) v.open_items) → (T : Trace) → Stands v T → u ≡ unrecorded_in id T
unrecorded_told v id u is T st = is ∙ ap (λ (w : Shown). unrecorded_by (find (is_of id) w.open_items)) st.is

pub grows_drain : (R : Store) (at : ℕ) → Grows (show R) (show (drained_in at R)) (λ T. Drained at ∷ [])
grows_drain R at = grows (λ v. Drained at ∷ []) (show R) (show (drained_in at R)) (λ T st. ((tt, tt), tt)) refl

-- ---- for answers

pub held_none : (p : Option Store) → show_past p ≡ None → p ≡ None
held_none None h = refl
held_none (Some R) h = cc

pub past_good : (p q : Option Store) → q ≡ p → IsGoodPast p → IsGoodPast q
past_good p q same good = subst (λ (o : Option Store). IsGoodPast o) (sym same) good

pub back_good : (p : Option Store) (R : Store) → IsGood R → IsGoodPast p → IsGood (taken_back p R)
back_good None R good past = good
back_good (Some P) R good past = past

pub back_free : (p : Option Store) (R : Store) → show_past p ≡ None → show (taken_back p R) ≡ show R
back_free None R free = refl
back_free (Some P) R free = cc

pub last_told : (v : Shown) (n k : ℕ) → n ≡ last_of v.drawn k → (T : Trace) → Stands v T → n ≡ last T k
last_told v n k is T st = is ∙ (ap (λ (u : Shown). last_of u.drawn k) st.is ∙ drawn_last T k)

-- whether an event was refused
run_told : (run : ℕ) (o : Option Slot) (r : Result (Unit {0}) SlotRefusal) (b : Bool) → r ≡ run_answer run (λ s. tt) o → b ≡ is_err r → is_some o ≡ not b
run_told run None r b is e = rw (e, is) refl
run_told run (Some s) r b is e = rw (e, is) refl

gone_told : (slot generation : ℕ) (o : Option Slot) (r : Result (Unit {0}) SlotRefusal) (b : Bool) → r ≡ gone_answer slot generation o → b ≡ is_err r → goes_by generation o ≡ not b
gone_told slot generation None r b is e = rw (e, is) refl
gone_told slot generation (Some s) r b is e = rw (e, is) (at (goes generation s))
  where
    answer : Bool → Result (Unit {0}) SlotRefusal
    answer c = cond c (Ok tt) (Err (slots.NoSlot slot s.generation))

    at : (c : Bool) → c ≡ not (is_err (answer c))
    at true = refl
    at false = refl

pub begun_done : (R F S : Store) (at run : ℕ) (r : Result (Unit {0}) SlotRefusal) → r ≡ run_answer run (λ s. tt) (first_with (awaits run) R.slots) → OnOk r (F ≡ event_in at (lives.Begun run at) R)
    → false ≡ is_err r → IsRunBegun at run F S → Grows (show R) (show S) (λ T. begun_items at run T)
begun_done R F S at run r is made ok begins =
    grows_begun R S at run true (sym (run_told run (first_with (awaits run) R.slots) r false is ok)) (subst (λ (U : Store). IsRunBegun at run U S) (sure r _ made ok) begins)

pub lost_done : (R F S : Store) (at run : ℕ) (r : Result (Unit {0}) SlotRefusal) → r ≡ run_answer run (λ s. tt) (first_with (holds run) R.slots) → OnOk r (F ≡ event_in at (lives.Lost run) R)
    → false ≡ is_err r → IsRunLost run F S → Grows (show R) (show S) (λ T. lost_items at run T)
lost_done R F S at run r is made ok loses =
    grows_lost R S at run true (sym (run_told run (first_with (holds run) R.slots) r false is ok)) (subst (λ (U : Store). IsRunLost run U S) (sure r _ made ok) loses)

pub gone_done : (R S : Store) (at slot generation : ℕ) (r : Result (Unit {0}) SlotRefusal) → r ≡ gone_answer slot generation (slice_get R.slots slot) → OnOk r (S ≡ event_in at (lives.Gone slot generation) R)
    → false ≡ is_err r → Grows (show R) (show S) (λ T. gone_items at slot generation T)
gone_done R S at slot generation r is made ok =
    grows_gone R S at slot generation true (sym (gone_told slot generation (slice_get R.slots slot) r false is ok)) (ap show (sure r _ made ok))

-- what is refused leaves the lists
refused : {A E : Type 0} (r : Result A E) (P : Type 0) → OnErr r P → true ≡ is_err r → P
refused (Ok a) P h e = cc
refused (Err x) P h e = h

pub gone_refused : (R S : Store) (at slot generation : ℕ) (r : Result (Unit {0}) SlotRefusal) → r ≡ gone_answer slot generation (slice_get R.slots slot) → OnErr r (S ≡ R)
    → true ≡ is_err r → Grows (show R) (show S) (λ T. gone_items at slot generation T)
gone_refused R S at slot generation r is same e =
    grows_gone R S at slot generation false (sym (gone_told slot generation (slice_get R.slots slot) r true is e)) (ap show (refused r _ same e))

pub good_done : {A E : Type 0} (R F : Store) (at : ℕ) (e : Event) (r : Result A E) → is_order e ≡ false → OnOk r (F ≡ event_in at e R) → false ≡ is_err r → IsGood R → IsGood F
good_done R F at e r plain made ok good = subst (λ (U : Store). IsGood U) (sym (sure r _ made ok)) (good_event R at e (within_kept e R.slots R.pool plain good.pool) good)

-- the slot that holds what a sweep recorded
pub recorded_slot : (o : Option Slot) (recorded : Option ℕ) → Some recorded ≡ recorded_there o → (s : Slot) × (o ≡ Some s) × (recorded ≡ recorded_of s.state)
recorded_slot None recorded is = cc
recorded_slot (Some s) recorded is = (s, refl, cc)

moved_length : (at : ℕ) (rs : List Run) (v : Shown) → length (moved (overrun_items at rs v)) ≡ length (overrun_items at rs v)
moved_length at [] v = refl
moved_length at (r ∷ rs) v =
    let late = late_of at r v in
    let rest = overrun_items at rs (grown late v) in
    let a = moved_length at rs (grown late v) in
    let b = late_length at r (first_with (runs r.number) v.slots) (find (is_of r.id) v.open_items) in
    let d : length (moved (rest ++ late)) ≡ length (moved late) + length (moved rest) = ap (λ (ms : List Moved). length ms) (moved_append rest late) ∙ length-append (moved late) (moved rest) in
    let e : length (rest ++ late) ≡ length rest + length late = length-append rest late in
    omega (arith, a, b, d, e)
  where
    late_by : (at : ℕ) (r : Run) (o : Open) (b : Bool) → length (moved (cond b (end_items at Overran (Some r) (Some o)) [])) ≡ length (cond b (end_items at Overran (Some r) (Some o)) [])
    late_by at r o true = refl
    late_by at r o false = refl

    late_length : (at : ℕ) (r : Run) (s : Option Slot) (o : Option Open) → length (moved (late_items at r s o)) ≡ length (late_items at r s o)
    late_length at r None o = refl
    late_length at r (Some s) None = refl
    late_length at r (Some s) (Some o) = late_by at r o (is_none (recorded_of s.state) && is_late at r o.task)

-- as many ends were noted as a sweep made
pub swept_moved : (R S : Store) (at : ℕ) (before after : List Moved) (n : ℕ) → IsMade (sweeps at R) R S before after → n ≡ length after - length before → (T : Trace) → Stands (show R) T
    → (n ≡ length (swept_ends at T)) × (after ≡ before ++ moved (swept_items at T))
swept_moved R S at before after n made is T st =
    let items : sweeps at R ≡ swept_ends at T = ap (λ (v : Shown). overrun_items at v.live v) st.is in
    let noted : after ≡ before ++ moved (swept_ends at T) = made.noted ∙ ap (λ (items : Trace). before ++ moved items) items in
    let all : length after ≡ length before + length (moved (swept_ends at T)) = ap (λ (ms : List Moved). length ms) noted ∙ length-append before (moved (swept_ends at T)) in
    (omega (arith, is, all, moved_length at (live T) (shown T)), unmoved before after (swept_ends at T) noted)

pub drain_told : (v : Shown) (busy n : ℕ) → busy ≡ length v.open_items → n ≡ v.count → (T : Trace) → Stands v T → drain_by busy n ≡ drain_answer T
drain_told v busy n is count T st = rw (is, count) (ap (λ (u : Shown). drain_by (length u.open_items) u.count) st.is)
