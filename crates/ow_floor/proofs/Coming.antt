-- The items of each call may come.
use Rattle.std.proofs.Common.{◌≡◌, ◌≤◌, ◌+◌, ◌++◌, ◌&&◌, ℕ, Bool, true, false, cond, List, [], ◌∷◌, Option, Some, None, length, map, refl, sym, ap, ◌∙◌, arith, subst}
use Rattle.std.specs.Prelude.{is_none, is_some}
use Rattle.std.specs.List.{find, slice_get, AllByRecursion, IsDistinct}
use Rattle.ow_records.specs.declared.ids.Id.{Id}
use Rattle.ow_records.specs.declared.outcomes.Ending.{Ending}
use Rattle.ow_records.specs.declared.outcomes.Ending.TheVariants.{Replied, Overran, Abandoned, Composed}
use Rattle.ow_traits.specs.declared.replies.RunReply.{RunReply}
use Rattle.ow_slots.specs.declared.states.Slot.{Slot}
use Rattle.ow_slots.specs.Slots.{IsThere, first_with, memory_held}
use Rattle.ow_slots.specs.State.{awaits, holds, recorded_of, runs}
use Rattle.ow_slots.proofs.KeyLaws.{key_told}
use Rattle.ow_pool.specs.declared.answers.Place.{Place}
use Rattle.ow_pool.specs.declared.answers.Place.TheVariants as places
use Rattle.ow_pool.proofs.OrderLaws.{KeysTell}
use Rattle.ow_slot_laws.specs.Life as lives
use Rattle.ow_slot_laws.specs.Life.{Event}
use Rattle.ow_slot_laws.specs.Fitting.{Goes, IsAny, IsFit}
use Rattle.ow_floor.specs.declared.activations.Open.{Open}
use Rattle.ow_floor.specs.declared.answers.Container.{Container}
use Rattle.ow_records.specs.declared.record.Record.{Record}
use Rattle.ow_floor.specs.declared.runs.Run.{Run}
use Rattle.ow_records.specs.Records.{is_of_id}
use Rattle.ow_floor.specs.View.{Shown, containers_of, is_of, is_number, remove_first, same_open, waits}
use Rattle.ow_floor.specs.Trace.{Trace, End, Answered, Begun, Drained, Ended, Gone, Lost, Reopened, Swept, end_of, live, live_run, open_items, overrun_of, record_of, records, shown, slots}
use Rattle.ow_floor.specs.Growth.{grow, grown, IsEventRight, IsLive, IsRight, AreRight}
use Rattle.ow_records.specs.Response.{ResponseView}
use Rattle.ow_floor.specs.Frames.{children_of, is_frame}
use Rattle.ow_floor.specs.Laws.{IsSound, bearers}
use Rattle.ow_floor.specs.Calls.{KeepSound, abandon_items, abandoned_items, accept_items, archive_items, answered_items, compose_items, composed_items, draw_items, end_items, ended_by, fire_items, first_items, first_late, goes_by, head_by, is_late, items_if, items_on, late_items, late_of, leaves_alive, next_items, note_swept_items, order_items, overrun_first, overrun_items, place_on, reply_items, resume_items, run_by, sorted_by_id, swept_items}
use Rattle.ow_floor.proofs.Alters.{same_id_refl}
use Rattle.ow_floor.proofs.Apart.{AreFound, all_sorted, distinct_sorted, each_by_id, found_left, length_sorted, open_distinct}
use Rattle.ow_floor.proofs.Drawn.{drawn_last}
use Rattle.ow_floor.proofs.Tallies.{eq_of, length-removed}
use Rattle.ow_floor.proofs.Firsts.{find_passes, find_push, or_new}
use Rattle.ow_floor.proofs.Numbers.{each_found, found_by_own}
use Rattle.ow_floor.proofs.Placing.{PlaceFits, place_fits}
use Rattle.ow_floor.proofs.Serving.{held_less, is_order}
use Rattle.ow_floor.proofs.Soundness.{sound_items, sound_start}
use Rattle.ow_floor.proofs.Standing.{ended_not_open, open_ended}

-- ---- several lists of items

pub grown_append : (xs ys : Trace) (v : Shown) → grown (xs ++ ys) v ≡ grown xs (grown ys v)
grown_append [] ys v = refl
grown_append (x ∷ xs) ys v = ap (grow x) (grown_append xs ys v)

pub right_append : (xs ys : Trace) (v : Shown) → AreRight xs (grown ys v) → AreRight ys v → AreRight (xs ++ ys) v
right_append [] ys v first second = second
right_append (x ∷ xs) ys v first second =
    (subst (λ (u : Shown). IsRight x u) (sym (grown_append xs ys v)) first.0, right_append xs ys v first.1 second)

-- ---- orders

keys_tell : KeysTell
keys_tell a b e = (key_told a b).0 e

pub numbers : (ns : List ℕ) (slots : List Slot) → map (λ (c : Container). c.slot) (containers_of ns slots) ≡ ns
numbers [] slots = refl
numbers (n ∷ ns) slots = ap (λ xs. n ∷ xs) (numbers ns slots)

-- the removal of these may come
abbrev RemovalComes : List ℕ → Shown → Type 0
RemovalComes ns v = IsEventRight (Some (lives.Removed ns)) v

order_at : (at : ℕ) (v : Shown) (o : Option Open) (p : Place) → find waits v.open_items ≡ o → PlaceFits v.slots (head_by o) v.pool p → AreRight (order_items p o at v) v
order_at at v None (places.Run slot start) found fits = tt
order_at at v (Some o) (places.Run slot start) found fits =
    (((o, found, refl), (record { next = refl; fits = fits.fits; own = fits.own }, fits.kept (v.runs + 1) at)), tt)
order_at at v None (places.Prewarm slot kind memory) found fits = ((tt, (record { next = refl; fits = fits.fits }, fits.kept (v.runs + 1) kind)), tt)
order_at at v (Some o) (places.Prewarm slot kind memory) found fits = ((tt, (record { next = refl; fits = fits.fits }, fits.kept (v.runs + 1) kind)), tt)
order_at at v None (places.Remove ns) found fits = ((tt, subst (λ ms. RemovalComes ms v) (sym (numbers ns v.slots)) (fits.fits, fits.kept)), tt)
order_at at v (Some o) (places.Remove ns) found fits = ((tt, subst (λ ms. RemovalComes ms v) (sym (numbers ns v.slots)) (fits.fits, fits.kept)), tt)
order_at at v None (places.Nothing reason) found fits = tt
order_at at v (Some o) (places.Nothing reason) found fits = tt

pub right_next : (at : ℕ) (v : Shown) → memory_held v.slots ≤ v.pool → AreRight (items_on at v) v
right_next at v within =
    order_at at v (find waits v.open_items) (place_on v) refl (place_fits keys_tell v.slots (head_by (find waits v.open_items)) v.wants v.pool within)

-- ---- beginnings, losses, goings

-- an event that is no order leaves what is held within the pool
pub comes : (e : Event) (v : Shown) → is_order e ≡ false → memory_held v.slots ≤ v.pool → IsFit e v.slots v.runs → IsEventRight (Some e) v
comes e v plain within fit = (fit, let less = held_less e v.slots plain in omega (arith, less, within))

pub there : (o : Option Slot) → is_some o ≡ true → IsThere IsAny o
there None e = cc
there (Some s) e = tt

begun_by : (at run : ℕ) (v : Shown) (b : Bool) → is_some (first_with (awaits run) v.slots) ≡ b → memory_held v.slots ≤ v.pool → AreRight (items_if b (Begun run at)) v
begun_by at run v true e within = ((tt, comes (lives.Begun run at) v refl within (there (first_with (awaits run) v.slots) e)), tt)
begun_by at run v false e within = tt

pub right_begun : (at run : ℕ) (v : Shown) → memory_held v.slots ≤ v.pool → AreRight (items_if (is_some (first_with (awaits run) v.slots)) (Begun run at)) v
right_begun at run v within = begun_by at run v (is_some (first_with (awaits run) v.slots)) refl within

pub goes_there : (generation : ℕ) (o : Option Slot) → goes_by generation o ≡ true → IsThere (Goes generation) o
goes_there generation None e = cc
goes_there generation (Some s) e = e

gone_by : (at slot generation : ℕ) (v : Shown) (b : Bool) → goes_by generation (slice_get v.slots slot) ≡ b → memory_held v.slots ≤ v.pool → AreRight (items_if b (Gone slot generation at)) v
gone_by at slot generation v true e within = ((tt, comes (lives.Gone slot generation) v refl within (goes_there generation (slice_get v.slots slot) e)), tt)
gone_by at slot generation v false e within = tt

pub right_gone : (at slot generation : ℕ) (v : Shown) → memory_held v.slots ≤ v.pool → AreRight (items_if (goes_by generation (slice_get v.slots slot)) (Gone slot generation at)) v
right_gone at slot generation v within = gone_by at slot generation v (goes_by generation (slice_get v.slots slot)) refl within

lost_by : (at run : ℕ) (v : Shown) (b : Bool) → is_some (first_with (holds run) v.slots) ≡ b → memory_held v.slots ≤ v.pool → AreRight (items_if b (Lost run at)) v
lost_by at run v true e within = ((tt, comes (lives.Lost run) v refl within (there (first_with (holds run) v.slots) e)), tt)
lost_by at run v false e within = tt

pub right_lost : (at run : ℕ) (v : Shown) → memory_held v.slots ≤ v.pool → AreRight (items_if (is_some (first_with (holds run) v.slots)) (Lost run at)) v
right_lost at run v within = lost_by at run v (is_some (first_with (holds run) v.slots)) refl within

-- ---- ends

found_id : (id : Id) (o : Open) (os : List Open) → find (is_of id) os ≡ Some o → find (is_of o.task.id) os ≡ Some o
found_id id o os found =
    let same : o.task.id ≡ id = eq_of o.task.id id (find_passes (is_of id) o os found) in
    subst (λ (x : Id). find (is_of x) os ≡ Some o) (sym same) found

end_at : (at : ℕ) (ending : Ending) (run : Option Run) (id : Id) (o : Option Open) (v : Shown) → IsLive run v.live → find (is_of id) v.open_items ≡ o → IsEventRight (overrun_of ending run at) v
    → AreRight (end_items at ending run o) v
end_at at ending run id None v live found event = tt
end_at at ending run id (Some o) v live found event = (((o, found_id id o v.open_items found, refl, live), event), tt)

-- ---- replies

or_some : (e : Record) (id : Id) (o : Option Record) → is_of_id id e ≡ true → (x : Record) × (or_new (is_of_id id) e o ≡ Some x)
or_some e id None t = (e, rw t refl)
or_some e id (Some x) t = (x, refl)

-- what ends isn't open any more
open_gone : (e : End) (o : Open) (T : Trace) → find (is_of e.task.id) (open_items T) ≡ Some o → e.task ≡ o.task → IsSound T
    → find (is_of e.task.id) (remove_first (is_of e.task.id) (open_items T)) ≡ None
open_gone e o T found is sound =
    let some = or_some (record_of e) e.task.id (end_of T e.task.id) (same_id_refl e.task.id) in
    let none = ended_not_open e.task.id (Ended e ∷ T) some.0 (find_push (is_of_id e.task.id) (record_of e) (records T) ∙ some.1) in
    subst (λ (os : List Open). find (is_of e.task.id) os ≡ None) (open_ended e o T found is sound) none

reply_open : (at run : ℕ) (reply : RunReply) (r : Run) (o : Option Open) (T : Trace) → live_run T run ≡ Some r → find (is_of r.id) (open_items T) ≡ o → IsThere IsAny (first_with (runs run) (slots T)) → IsSound T
    → AreRight (Answered run (leaves_alive reply) at ∷ end_items at (Replied reply) (Some r) o) (shown T)
reply_open at run reply r None T found none busy sound = (((r, found, none), comes (lives.Answered run (leaves_alive reply) at) (shown T) refl sound.slotted.within busy), tt)
reply_open at run reply r (Some o) T found here busy sound =
    let same : o.task.id ≡ r.id = eq_of o.task.id r.id (find_passes (is_of r.id) o (open_items T) here) in
    let e = ended_by at (Replied reply) (Some r) o.task in
    let there = found_id r.id o (open_items T) here in
    let none = subst (λ (x : Id). find (is_of x) (remove_first (is_of o.task.id) (open_items T)) ≡ None) same (open_gone e o T there refl sound) in
    (((r, found, none), comes (lives.Answered run (leaves_alive reply) at) (shown T) refl sound.slotted.within busy), right_some)
  where
    right_some : AreRight (end_items at (Replied reply) (Some r) (Some o)) (shown T)
    right_some = end_at at (Replied reply) (Some r) r.id (Some o) (shown T) (found_by_own run r (live T) found) here tt

reply_at : (at run : ℕ) (reply : RunReply) (r : Option Run) (s : Option Slot) (T : Trace) → live_run T run ≡ r → first_with (runs run) (slots T) ≡ s → IsSound T
    → AreRight (reply_items at run reply (shown T) (run_by s r)) (shown T)
reply_at at run reply None None T found here sound = tt
reply_at at run reply None (Some s) T found here sound = tt
reply_at at run reply (Some r) None T found here sound = tt
reply_at at run reply (Some r) (Some s) T found here sound = reply_open at run reply r (find (is_of r.id) (open_items T)) T found refl (rw here tt) sound

pub right_reply : (at run : ℕ) (reply : RunReply) (T : Trace) → IsSound T → AreRight (answered_items at run reply T) (shown T)
right_reply at run reply T sound = reply_at at run reply (live_run T run) (first_with (runs run) (slots T)) T refl refl sound

-- ---- sweeps

none_of : (o : Option ℕ) (b : Bool) → (is_none o && b) ≡ true → o ≡ None
none_of None b e = refl
none_of (Some n) b e = cc

late_by : (at : ℕ) (r : Run) (s : Slot) (o : Open) (b : Bool) (v : Shown) → find (is_number r.number) v.live ≡ Some r → first_with (runs r.number) v.slots ≡ Some s → find (is_of r.id) v.open_items ≡ Some o
    → (is_none (recorded_of s.state) && is_late at r o.task) ≡ b → memory_held v.slots ≤ v.pool → AreRight (cond b (end_items at Overran (Some r) (Some o)) []) v
late_by at r s o true v live here found e within =
    let none = none_of (recorded_of s.state) (is_late at r o.task) e in
    end_at at Overran (Some r) r.id (Some o) v live found (comes (lives.Overran r.number at) v refl within (rw here none))
late_by at r s o false v live here found e within = tt

late_at : (at : ℕ) (r : Run) (s : Option Slot) (o : Option Open) (v : Shown) → find (is_number r.number) v.live ≡ Some r → first_with (runs r.number) v.slots ≡ s → find (is_of r.id) v.open_items ≡ o
    → memory_held v.slots ≤ v.pool → AreRight (late_items at r s o) v
late_at at r None o v live here found within = tt
late_at at r (Some s) None v live here found within = tt
late_at at r (Some s) (Some o) v live here found within = late_by at r s o (is_none (recorded_of s.state) && is_late at r o.task) v live here found refl within

-- an end leaves the live runs and the pool, and what is held within it
record LeftLate (items : Trace) (v : Shown) : Type 0 where
  live : (grown items v).live ≡ v.live
  within : memory_held (grown items v).slots ≤ (grown items v).pool

left_by : (at : ℕ) (r : Run) (o : Open) (b : Bool) (v : Shown) → memory_held v.slots ≤ v.pool → LeftLate (cond b (end_items at Overran (Some r) (Some o)) []) v
left_by at r o true v within = record { live = refl; within = let less = held_less (lives.Overran r.number at) v.slots refl in omega (arith, less, within) }
left_by at r o false v within = record { live = refl; within = within }

left_late : (at : ℕ) (r : Run) (s : Option Slot) (o : Option Open) (v : Shown) → memory_held v.slots ≤ v.pool → LeftLate (late_items at r s o) v
left_late at r None o v within = record { live = refl; within = within }
left_late at r (Some s) None v within = record { live = refl; within = within }
left_late at r (Some s) (Some o) v within = left_by at r o (is_none (recorded_of s.state) && is_late at r o.task) v within

right_overrun : (at : ℕ) (rs : List Run) (v : Shown) → memory_held v.slots ≤ v.pool → AllByRecursion (λ r. find (is_number r.number) v.live ≡ Some r) rs → AreRight (overrun_items at rs v) v
right_overrun at [] v within live = tt
right_overrun at (r ∷ rs) v within live =
    let late = late_of at r v in
    let left = left_late at r (first_with (runs r.number) v.slots) (find (is_of r.id) v.open_items) v within in
    let still = subst (λ (ls : List Run). AllByRecursion (λ r. find (is_number r.number) ls ≡ Some r) rs) (sym left.live) live.1 in
    right_append (overrun_items at rs (grown late v)) late v (right_overrun at rs (grown late v) left.within still)
    (late_at at r (first_with (runs r.number) v.slots) (find (is_of r.id) v.open_items) v live.0 refl refl within)

pub right_swept : (at : ℕ) (v : Shown) → memory_held v.slots ≤ v.pool → ((run : ℕ) → bearers run v.live ≤ 1) → AreRight (Swept at ∷ overrun_items at v.live v) v
right_swept at v within single = ((tt, tt), right_overrun at v.live v within (each_found v.live single))

right_first : (items rest : Trace) (v : Shown) → AreRight items v → AreRight rest v → AreRight (first_items items rest) v
right_first [] rest v a b = b
right_first (item ∷ items) rest v a b = a

right_first_late : (at : ℕ) (rs : List Run) (v : Shown) → memory_held v.slots ≤ v.pool → AllByRecursion (λ r. find (is_number r.number) v.live ≡ Some r) rs → AreRight (first_late at rs v) v
right_first_late at [] v within live = tt
right_first_late at (r ∷ rs) v within live =
    right_first (late_of at r v) (first_late at rs v) v (late_at at r (first_with (runs r.number) v.slots) (find (is_of r.id) v.open_items) v live.0 refl refl within)
    (right_first_late at rs v within live.1)

pub right_overran : (at : ℕ) (v : Shown) → memory_held v.slots ≤ v.pool → ((run : ℕ) → bearers run v.live ≤ 1) → AreRight (first_late at v.live v) v
right_overran at v within single = right_first_late at v.live v within (each_found v.live single)

-- ---- composites

pub right_composed : (at : ℕ) (id : Id) (r : ResponseView) (v : Shown) → AreRight (composed_items at id r v) v
right_composed at id r v = end_at at (Composed r (children_of (find (is_frame id) v.frames))) None id (find (is_of id) v.open_items) v tt refl tt

-- ---- openings

no_more : (os : List Open) → length os ≡ 0 → os ≡ []
no_more [] none = refl
no_more (o ∷ os) none = absurd (omega (arith, none))

-- these are all that is open, in any order
pub right_abandoned : (at : ℕ) (os : List Open) (v : Shown) → AreFound v.open_items os → IsDistinct same_open os → length v.open_items ≡ length os
    → AreRight (abandoned_items at os) v × ((grown (abandoned_items at os) v).open_items ≡ [])
unfolding IsDistinct
right_abandoned at [] v found apart size = (tt, no_more v.open_items size)
right_abandoned at (o ∷ os) v found apart size =
    let last = end_items at Abandoned None (Some o) in
    let one = length-removed (is_of o.task.id) v.open_items o found.0 in
    let rest = right_abandoned at os (grown last v) (found_left o v.open_items os found.0 apart.0 found.1) apart.1 (omega (arith, one, size)) in (
      right_append (abandoned_items at os) last v rest.0 (end_at at Abandoned None o.task.id (Some o) v tt found.0 tt),
      ap (λ (u : Shown). u.open_items) (grown_append (abandoned_items at os) last v) ∙ rest.1,
    )

abandoned_left : (at : ℕ) (os : List Open) (v : Shown) → ((grown (abandoned_items at os) v).slots ≡ v.slots) × ((grown (abandoned_items at os) v).pool ≡ v.pool)
abandoned_left at [] v = (refl, refl)
abandoned_left at (o ∷ os) v =
    let last = end_items at Abandoned None (Some o) in
    let rest = abandoned_left at os (grown last v) in
    let both = grown_append (abandoned_items at os) last v in
    (ap (λ (u : Shown). u.slots) both ∙ rest.0, ap (λ (u : Shown). u.pool) both ∙ rest.1)

pub right_reopened : (at : ℕ) (v : Shown) → memory_held v.slots ≤ v.pool → IsDistinct same_open v.open_items → AreRight (Reopened at ∷ abandoned_items at (sorted_by_id v.open_items)) v
right_reopened at v within apart =
    let os = sorted_by_id v.open_items in
    let each = all_sorted (λ o. find (is_of o.task.id) v.open_items ≡ Some o) v.open_items (each_by_id v.open_items apart) in
    let both = right_abandoned at os v each (distinct_sorted v.open_items apart) (sym (length_sorted v.open_items)) in
    let left = abandoned_left at os v in
    let ended = grown (abandoned_items at os) v in
    ((both.1, comes lives.Reopened ended refl (rw (left.0, left.1) within) tt), both.0)

-- ---- each call keeps a trace sound

pub calls_keep_sound : KeepSound
calls_keep_sound = record {
  start = sound_start;
  resume = λ counts rs T fresh resumable sound. (sound_items (resume_items counts rs) T (((fresh, resumable), tt), tt) sound).0;
  accept = λ at plan T next sound. (sound_items (accept_items at plan) T ((next ∙ ap (λ n. n + 1) (sym (drawn_last T plan.id.namespace)), tt), tt) sound).0;
  draw = λ at id T next sound. (sound_items (draw_items at id) T ((next ∙ ap (λ n. n + 1) (sym (drawn_last T id.namespace)), tt), tt) sound).0;
  fire = λ r T drawn sound. (sound_items (fire_items r) T ((drawn, tt), tt) sound).0;
  next = λ at T sound. (sound_items (next_items at T) T (right_next at (shown T) sound.slotted.within) sound).0;
  begun = λ at run T sound. (sound_items _ T (right_begun at run (shown T) sound.slotted.within) sound).0;
  answered = λ at run reply T sound. (sound_items _ T (right_reply at run reply T sound) sound).0;
  lost = λ at run T sound. (sound_items _ T (right_lost at run (shown T) sound.slotted.within) sound).0;
  gone = λ at slot generation T sound. (sound_items _ T (right_gone at slot generation (shown T) sound.slotted.within) sound).0;
  sweep = λ at T sound. (sound_items (swept_items at T) T (right_swept at (shown T) sound.slotted.within sound.single) sound).0;
  overrun = λ at T sound. (sound_items (overrun_first at T) T (right_overran at (shown T) sound.slotted.within sound.single) sound).0;
  note_swept = λ at T sound. (sound_items (note_swept_items at) T ((tt, tt), tt) sound).0;
  compose = λ at id r T sound. (sound_items (compose_items at id r T) T (right_composed at id r (shown T)) sound).0;
  drain = λ at T sound. (sound_items (Drained at ∷ []) T ((tt, tt), tt) sound).0;
  abandon = λ at T sound. (sound_items (abandon_items at T) T (right_reopened at (shown T) sound.slotted.within (open_distinct T sound)) sound).0;
  archive = λ until T sound. (sound_items (archive_items until T) T ((tt, tt), tt) sound).0;
}
