-- What items do to what is owed.
use Rattle.std.proofs.Common.{◌≡◌, ◌+◌, ◌≤◌, ◌++◌, ◌&&◌, ℕ, Bool, true, false, cond, List, [], ◌∷◌, Option, Some, None, map, refl, sym, arith, subst}
use Rattle.std.specs.List.{find}
use Rattle.std.specs.Prelude.{is_none, slice_get}
use Rattle.ow_records.specs.declared.outcomes.Ending.{Ending}
use Rattle.ow_records.specs.declared.outcomes.Ending.TheVariants.{Replied, Overran, Abandoned, Composed}
use Rattle.ow_traits.specs.declared.replies.RunReply.{RunReply}
use Rattle.ow_slots.specs.declared.states.Slot.{Slot}
use Rattle.ow_slots.specs.Slots.{first_with}
use Rattle.ow_slots.specs.State.{awaits, holds, recorded_of, runs}
use Rattle.ow_pool.specs.declared.answers.Place.{Place}
use Rattle.ow_pool.specs.declared.answers.Place.TheVariants as places
use Rattle.ow_slot_laws.specs.Owed as lives
use Rattle.ow_slot_laws.specs.Life as events
use Rattle.ow_slot_laws.proofs.Owing.{falls, rises as raises}
use Rattle.ow_floor.specs.declared.activations.Open.{Open}
use Rattle.ow_floor.specs.declared.answers.Container.{Container}
use Rattle.ow_floor.specs.declared.runs.Run.{Run}
use Rattle.ow_floor.specs.View.{Shown, is_of, waits}
use Rattle.ow_floor.specs.Trace.{Trace, Item, Opened, Resumed, Accepted, Ordered, Prewarming, Removed, Begun, Answered, Lost, Gone, Ended, Drawn, Fired, Swept, Drained, Reopened, Archived, event_of, live, overrun_of, run_count, shown, slots, slots_by}
use Rattle.ow_floor.specs.Growth.{AreRight, IsRight, grown}
use Rattle.ow_floor.specs.Laws.{IsSound}
use Rattle.ow_floor.specs.Calls.{RaisesLittle, abandoned_items, begins, end_items, first_items, first_late, goes, is_late, late_items, late_of, loses, overrun_items, reply_items, busy_run, order_items, place_on, sorted_by_id}
use Rattle.ow_floor.specs.Owed.{owed, rise, rises}
use Rattle.ow_floor.proofs.Coming.{comes, goes_there, there}
use Rattle.ow_floor.proofs.Slotting.{slots_item}
use Rattle.ow_floor.proofs.Soundness.{sound_items}

-- ---- one item

ended_rises : (ending : Ending) (run : Option Run) (at : ℕ) (slots : List Slot) → lives.owed (slots_by (overrun_of ending run at) slots) ≤ lives.owed slots
ended_rises (Replied reply) run at slots = omega arith
ended_rises Overran None at slots = omega arith
ended_rises Overran (Some r) at slots = let h = raises (events.Overran r.number at) slots in omega (arith, h)
ended_rises Abandoned run at slots = omega arith
ended_rises (Composed r children) run at slots = omega arith

item_rises : (item : Item) (slots : List Slot) → lives.owed (slots_by (event_of item) slots) ≤ lives.owed slots + rise item
item_rises (Opened pool wants) slots = omega arith
item_rises (Resumed counts rs) slots = omega arith
item_rises (Accepted a) slots = omega arith
item_rises (Ordered r key) slots = raises (events.Ran r.slot r.number key r.start r.at) slots
item_rises (Prewarming o at) slots = raises (events.Prewarming o.slot o.run o.kind o.memory) slots
item_rises (Removed containers at) slots = raises (events.Removed (map (λ (c : Container). c.slot) containers)) slots
item_rises (Begun run at) slots = raises (events.Begun run at) slots
item_rises (Answered run alive at) slots = raises (events.Answered run alive at) slots
item_rises (Lost run at) slots = raises (events.Lost run) slots
item_rises (Gone slot generation at) slots = raises (events.Gone slot generation) slots
item_rises (Ended e) slots = let h = ended_rises e.ending e.run e.at slots in omega (arith, h)
item_rises (Drawn id at) slots = omega arith
item_rises (Fired r) slots = omega arith
item_rises (Swept at) slots = omega arith
item_rises (Drained at) slots = omega arith
item_rises (Reopened at) slots = raises events.Reopened slots
item_rises (Archived until at) slots = omega arith

grown_rises : (items : Trace) (v : Shown) → lives.owed (grown items v).slots ≤ lives.owed v.slots + rises items
grown_rises [] v = omega arith
grown_rises (item ∷ items) v =
    let a = item_rises item (grown items v).slots in
    let b = grown_rises items v in
    omega (arith, a, b)

pub owed_items : (items T : Trace) → AreRight items (shown T) → IsSound T → owed (items ++ T) ≤ owed T + rises items
owed_items items T right sound =
    let both = sound_items items T right sound in
    let h = grown_rises items (shown T) in
    subst (λ (v : Shown). lives.owed v.slots ≤ owed T + rises items) (sym both.1) h

-- ---- what is booked without memory was owed

pub owed_begun : (run at : ℕ) (T : Trace) → IsSound T → begins run T ≡ true → owed (Begun run at ∷ T) + 1 ≤ owed T
owed_begun run at T sound new =
    let right : IsRight (Begun run at) (shown T) = (tt, comes (events.Begun run at) (shown T) refl sound.slotted.within (there (first_with (awaits run) (slots T)) new)) in
    rw (slots_item (Begun run at) T right sound.slotted) (let h = falls (events.Begun run at) (slots T) (run_count T) right.1.0 in omega (arith, h))

pub owed_lost : (run at : ℕ) (T : Trace) → IsSound T → loses run T ≡ true → owed (Lost run at ∷ T) + 1 ≤ owed T
owed_lost run at T sound new =
    let right : IsRight (Lost run at) (shown T) = (tt, comes (events.Lost run) (shown T) refl sound.slotted.within (there (first_with (holds run) (slots T)) new)) in
    rw (slots_item (Lost run at) T right sound.slotted) (let h = falls (events.Lost run) (slots T) (run_count T) right.1.0 in omega (arith, h))

pub owed_gone : (slot generation at : ℕ) (T : Trace) → IsSound T → goes slot generation T ≡ true → owed (Gone slot generation at ∷ T) + 1 ≤ owed T
owed_gone slot generation at T sound new =
    let right : IsRight (Gone slot generation at) (shown T) = (tt, comes (events.Gone slot generation) (shown T) refl sound.slotted.within (goes_there generation (slice_get (slots T) slot) new)) in
    rw (slots_item (Gone slot generation at) T right sound.slotted) (let h = falls (events.Gone slot generation) (slots T) (run_count T) right.1.0 in omega (arith, h))

-- ---- the items of calls

rises_append : (xs ys : Trace) → rises (xs ++ ys) ≡ rises xs + rises ys
rises_append [] ys = omega arith
rises_append (x ∷ xs) ys = let h = rises_append xs ys in omega (arith, h)

rises_by : (at : ℕ) (r : Run) (o : Open) (b : Bool) → rises (cond b (end_items at Overran (Some r) (Some o)) []) ≡ 0
rises_by at r o true = refl
rises_by at r o false = refl

rises_late : (at : ℕ) (r : Run) (s : Option Slot) (o : Option Open) → rises (late_items at r s o) ≡ 0
rises_late at r None o = refl
rises_late at r (Some s) None = refl
rises_late at r (Some s) (Some o) = rises_by at r o (is_none (recorded_of s.state) && is_late at r o.task)

rises_overrun : (at : ℕ) (rs : List Run) (v : Shown) → rises (overrun_items at rs v) ≡ 0
rises_overrun at [] v = refl
rises_overrun at (r ∷ rs) v =
    let late = late_of at r v in
    let a = rises_overrun at rs (grown late v) in
    let b = rises_late at r (first_with (runs r.number) v.slots) (find (is_of r.id) v.open_items) in
    let d = rises_append (overrun_items at rs (grown late v)) late in
    omega (arith, a, b, d)

rises_abandoned : (at : ℕ) (os : List Open) → rises (abandoned_items at os) ≡ 0
rises_abandoned at [] = refl
rises_abandoned at (o ∷ os) =
    let a = rises_abandoned at os in
    let d = rises_append (abandoned_items at os) (end_items at Abandoned None (Some o)) in
    omega (arith, a, d)

rises_order : (p : Place) (o : Option Open) (at : ℕ) (v : Shown) → rises (order_items p o at v) ≤ 3
rises_order (places.Run slot start) None at v = omega arith
rises_order (places.Run slot start) (Some o) at v = omega arith
rises_order (places.Prewarm slot kind memory) o at v = omega arith
rises_order (places.Remove slots) o at v = omega arith
rises_order (places.Nothing reason) o at v = omega arith

rises_end : (at : ℕ) (reply : RunReply) (r : Run) (o : Option Open) → rises (end_items at (Replied reply) (Some r) o) ≡ 0
rises_end at reply r None = refl
rises_end at reply r (Some o) = refl

rises_reply : (at run : ℕ) (reply : RunReply) (v : Shown) (r : Option Run) → rises (reply_items at run reply v r) ≡ 0
rises_reply at run reply v None = refl
rises_reply at run reply v (Some r) = let h = rises_end at reply r (find (is_of r.id) v.open_items) in omega (arith, h)

rises_first : (items rest : Trace) → rises items ≡ 0 → rises rest ≡ 0 → rises (first_items items rest) ≡ 0
rises_first [] rest a b = b
rises_first (item ∷ items) rest a b = a

rises_first_late : (at : ℕ) (rs : List Run) (v : Shown) → rises (first_late at rs v) ≡ 0
rises_first_late at [] v = refl
rises_first_late at (r ∷ rs) v = rises_first (late_of at r v) (first_late at rs v) (rises_late at r (first_with (runs r.number) v.slots) (find (is_of r.id) v.open_items)) (rises_first_late at rs v)

rises_composed : (at : ℕ) (ending : Ending) (o : Option Open) → rises (end_items at ending None o) ≡ 0
rises_composed at ending None = refl
rises_composed at ending (Some o) = refl

pub raises_little : RaisesLittle
raises_little = record {
  resume = λ counts rs. refl;
  accept = λ at plan. refl;
  draw = λ at id. refl;
  fire = λ r. refl;
  next = λ at T. rises_order (place_on (shown T)) (find waits (shown T).open_items) at (shown T);
  answered = λ at run reply T. rises_reply at run reply (shown T) (busy_run run (shown T));
  sweep = λ at T. let h = rises_overrun at (live T) (shown T) in omega (arith, h);
  overrun = λ at T. rises_first_late at (live T) (shown T);
  note_swept = λ at. refl;
  compose = λ at id r T. rises_composed at _ (find (is_of id) (shown T).open_items);
  abandon = λ at T. let h = rises_abandoned at (sorted_by_id (shown T).open_items) in omega (arith, h);
  archive = λ until T. refl;
}
