-- After each item that may come the slots are sound.
use Rattle.std.proofs.Common.{◌≡◌, ◌==◌, ◌+◌, ◌≤◌, ℕ, zero, suc, Bool, true, false, List, [], ◌∷◌, Option, Some, None, refl, sym, ap, ◌∙◌, arith, subst}
use Rattle.std.specs.List.{find, slice_get}
use Rattle.std.specs.Prelude.{is_some, map, replicate}
use Rattle.std.proofs.lemmas.List.Sums.{sum_by-cons}
use Rattle.ow_records.specs.declared.outcomes.Ending.{Ending}
use Rattle.ow_records.specs.declared.outcomes.Ending.TheVariants.{Replied, Overran, Abandoned, Composed}
use Rattle.ow_traits.specs.declared.prewarms.Prewarm.{Prewarm}
use Rattle.ow_slots.specs.declared.states.Slot.{Slot}
use Rattle.ow_slots.specs.Slots.{IsThere, first_with, has, memory_held, vacant_slot}
use Rattle.ow_slots.specs.State.{holds, runs}
use Rattle.ow_pool.proofs.Sums.{size}
use Rattle.ow_slot_laws.specs.Life as lives
use Rattle.ow_slot_laws.specs.Life.{Event, Life, slots_of}
use Rattle.ow_slot_laws.specs.Fitting.{AreFit, IsAny, IsFit, changed}
use Rattle.ow_slot_laws.proofs.Changing.{begin, changes}
use Rattle.ow_slot_laws.proofs.Runs.{runs_holds}
use Rattle.ow_slot_laws.proofs.Standing.{runs_stand}
use Rattle.ow_floor.specs.declared.answers.Container.{Container}
use Rattle.ow_floor.specs.declared.runs.Run.{Run}
use Rattle.ow_floor.specs.View.{begun, is_number, remove_first}
use Rattle.ow_floor.specs.Trace.{Item, Trace, Opened, Resumed, Accepted, Ordered, Prewarming, Removed, Begun, Answered, Lost, Gone, Ended, Drawn, Fired, Swept, Drained, Reopened, Archived, event_of, life, life_by, live, live_run, overrun_of, pool_of, run_count, shown, slot_count, slots, slots_by}
use Rattle.ow_floor.specs.Growth.{IsEventRight, IsRight}
use Rattle.ow_floor.specs.Laws.{AreSlotsSound, StandInSlots, bearers, tally}
use Rattle.ow_floor.proofs.Firsts.{find_passes, remove_none, tally_none, tally_push, tally_removed, tally_some, tally_updated}
use Rattle.ow_floor.proofs.Numbers.{number_is}
use Rattle.ow_floor.proofs.Tallies.{one_if}
use Rattle.ow_floor.proofs.Serving.{busies, busies_answered, busies_begun, busies_emptied, busies_gone, busies_lost, busies_overran, busies_prewarming, busies_ran, busies_removed, busy_found, opening_apart, tally_less, tally_sub}

-- ---- what happened to slots

overrun_counts : (ending : Ending) (run : Option Run) (at : ℕ) (L : Life) → lives.run_count (life_by (overrun_of ending run at) L) ≡ lives.run_count L
overrun_counts (Replied reply) run at L = refl
overrun_counts Overran None at L = refl
overrun_counts Overran (Some r) at L = refl
overrun_counts Abandoned run at L = refl
overrun_counts (Composed r children) run at L = refl

-- as many runs were ordered
pub counted : (T : Trace) → lives.run_count (life T) ≡ run_count T
counted [] = refl
counted (item ∷ T) = of_item item (counted T)
  where
    of_item : (item : Item) → lives.run_count (life T) ≡ run_count T → lives.run_count (life (item ∷ T)) ≡ run_count (item ∷ T)
    of_item (Opened pool wants) e = e
    of_item (Resumed counts rs) e = e
    of_item (Accepted a) e = e
    of_item (Ordered r key) e = ap (λ n. n + 1) e
    of_item (Prewarming o at) e = ap (λ n. n + 1) e
    of_item (Removed containers at) e = e
    of_item (Begun run at) e = e
    of_item (Answered run alive at) e = e
    of_item (Lost run at) e = e
    of_item (Gone slot generation at) e = e
    of_item (Ended end) e = overrun_counts end.ending end.run end.at (life T) ∙ e
    of_item (Drawn id at) e = e
    of_item (Fired r) e = e
    of_item (Swept at) e = e
    of_item (Drained at) e = e
    of_item (Reopened at) e = e
    of_item (Archived until at) e = e

fit_in_life : (e : Event) (T : Trace) → IsFit e (slots T) (run_count T) → IsFit e (slots T) (lives.run_count (life T))
fit_in_life e T fit = subst (λ n. IsFit e (slots T) n) (sym (counted T)) fit

fit_by : (o : Option Event) (T : Trace) → IsEventRight o (shown T) → AreSlotsSound T → AreFit (life_by o (life T)) (slot_count (pool_of T))
fit_by None T right sound = sound.fit
fit_by (Some e) T right sound = (fit_in_life e T right.0, sound.fit)

-- the slots after an event are what it makes of them
pub slots_one : (o : Option Event) (T : Trace) → IsEventRight o (shown T) → AreSlotsSound T → slots_of (life_by o (life T)) (slot_count (pool_of T)) ≡ slots_by o (slots T)
slots_one None T right sound = refl
slots_one (Some e) T right sound = changes e (life T) (slot_count (pool_of T)) (fit_in_life e T right.0, sound.fit)

within_by : (o : Option Event) (T : Trace) → IsEventRight o (shown T) → AreSlotsSound T → memory_held (slots_by o (slots T)) ≤ pool_of T
within_by None T right sound = sound.within
within_by (Some e) T right sound = right.1

slotted_of : (o : Option Event) (T U : Trace) → life U ≡ life_by o (life T) → pool_of U ≡ pool_of T → IsEventRight o (shown T) → AreSlotsSound T
    → ((m : ℕ) → bearers m (live U) ≡ busies m (slots_by o (slots T))) → AreSlotsSound U
slotted_of o T U is pool right sound busy =
    let same : slots U ≡ slots_by o (slots T) = ap (λ n. slots_of (life U) (slot_count n)) pool ∙ (ap (λ L. slots_of L (slot_count (pool_of T))) is ∙ slots_one o T right sound) in
    let within = within_by o T right sound in
    let fits = fit_by o T right sound in
    record {
      fit = subst (λ n. AreFit (life U) (slot_count n)) (sym pool) (subst (λ L. AreFit L (slot_count (pool_of T))) (sym is) fits);
      within = rw (same, pool) within;
      busy = λ m. busy m ∙ ap (busies m) (sym same);
    }

-- ---- which slots have a run

absent : (p : Slot → Bool) (slots : List Slot) → ((i : ℕ) → IsThere (λ s. p s ≡ true) (slice_get slots i) → ⊥) → tally p slots ≡ 0
absent p [] none = refl
absent p (x ∷ slots) none = at (p x) refl (absent p slots (λ i h. none (suc i) h))
  where
    at : (b : Bool) → p x ≡ b → tally p slots ≡ 0 → tally p (x ∷ slots) ≡ 0
    at true e rest = absurd (none 0 e)
    at false e rest = rw e (omega (arith, rest))

alone : (p : Slot → Bool) (slots : List Slot) → ((i j : ℕ) → IsThere (λ s. p s ≡ true) (slice_get slots i) → IsThere (λ s. p s ≡ true) (slice_get slots j) → i ≡ j) → tally p slots ≤ 1
alone p [] one = omega arith
alone p (x ∷ slots) one = at (p x) refl (alone p slots (λ i j h k. let same : suc i ≡ suc j = one (suc i) (suc j) h k in omega (arith, same)))
  where
    at : (b : Bool) → p x ≡ b → tally p slots ≤ 1 → tally p (x ∷ slots) ≤ 1
    at true e rest = let none = absent p slots (λ i h. let k : 0 ≡ suc i = one 0 (suc i) e h in absurd (omega (arith, k))) in rw e (omega (arith, none))
    at false e rest = rw e (omega (arith, rest))

pub held_once : (T : Trace) → AreSlotsSound T → (run : ℕ) → tally (has (holds run)) (slots T) ≤ 1
held_once T sound run =
    let stand = runs_stand (life T) (slot_count (pool_of T)) sound.fit in
    alone (has (holds run)) (slots T) (λ i j h k. stand.alone run i j h k)

found_one : (p q : Slot → Bool) (slots : List Slot) (s : Slot) → find q slots ≡ Some s → p s ≡ true → 1 ≤ tally p slots
found_one p q [] s e t = cc
found_one p q (x ∷ slots) s e t = at (q x) refl (λ found. found_one p q slots s found t)
  where
    at : (b : Bool) → q x ≡ b → (find q slots ≡ Some s → 1 ≤ tally p slots) → 1 ≤ tally p (x ∷ slots)
    at true u rest =
        let h : Some x ≡ Some s = rw u at e in
        let same : x ≡ s = cc in
        let here : p x ≡ true = rw same t in
        rw here (omega arith)
    at false u rest = let more = rest (rw u at e) in omega (arith, more)

-- ---- each item

busy_lost : (run m : ℕ) (T : Trace) (s : Slot) (o : Option Run) (b : Bool) → first_with (holds run) (slots T) ≡ Some s → live_run T run ≡ o → runs run s.state ≡ b → AreSlotsSound T
    → bearers m (remove_first (is_number run) (live T)) ≡ busies m (changed (lives.Lost run) (slots T))
busy_lost run m T s None true e found t sound =
    let here = found_one (has (runs run)) (has (holds run)) (slots T) s e t in
    let none = tally_none (is_number run) (live T) found in
    let same = sound.busy run in
    absurd (omega (arith, here, none, same))
busy_lost run m T s None false e found t sound =
    let held = find_passes (has (holds run)) s (slots T) e in
    let none = opening_apart run m s.state held t in
    let sum = busies_lost m run (slots T) s e in
    let left : bearers m (remove_first (is_number run) (live T)) ≡ bearers m (live T) = ap (bearers m) (remove_none (is_number run) (live T) found) in
    let same = sound.busy m in
    omega (arith, none, sum, left, same)
busy_lost run m T s (Some r) true e found t sound =
    let one = busy_found m run s.state t in
    let sum = busies_lost m run (slots T) s e in
    let left = tally_removed (is_number run) (is_number m) r (live T) found in
    let number : one_if (r.number == m) ≡ one_if (run == m) = ap (λ n. one_if (n == m)) (number_is run r (live T) found) in
    let same = sound.busy m in
    omega (arith, one, sum, left, number, same)
busy_lost run m T s (Some r) false e found t sound =
    let less = tally_less (has (holds run)) (has (runs run)) (slots T) s (λ x h. runs_holds run x.state h) e t in
    let most = held_once T sound run in
    let some = tally_some (is_number run) r (live T) found in
    let same = sound.busy run in
    absurd (omega (arith, less, most, some, same))

lost_slots : (run m : ℕ) (T : Trace) (o : Option Slot) → first_with (holds run) (slots T) ≡ o → IsThere IsAny o → AreSlotsSound T
    → bearers m (remove_first (is_number run) (live T)) ≡ busies m (changed (lives.Lost run) (slots T))
lost_slots run m T None e there sound = absurd there
lost_slots run m T (Some s) e there sound = busy_lost run m T s (live_run T run) (runs run s.state) e refl refl sound

answered_slots : (run : ℕ) (alive : Bool) (at m : ℕ) (T : Trace) (r : Run) (o : Option Slot) → live_run T run ≡ Some r → first_with (runs run) (slots T) ≡ o → IsThere IsAny o → AreSlotsSound T
    → bearers m (remove_first (is_number run) (live T)) ≡ busies m (changed (lives.Answered run alive at) (slots T))
answered_slots run alive at m T r None found e there sound = absurd there
answered_slots run alive at m T r (Some s) found e there sound =
    let sum = busies_answered m run alive at (slots T) s e (find_passes (has (runs run)) s (slots T) e) in
    let left = tally_removed (is_number run) (is_number m) r (live T) found in
    let number : one_if (r.number == m) ≡ one_if (run == m) = ap (λ n. one_if (n == m)) (number_is run r (live T) found) in
    let same = sound.busy m in
    omega (arith, sum, left, number, same)

busies_ended : (ending : Ending) (run : Option Run) (at m : ℕ) (slots : List Slot) → busies m (slots_by (overrun_of ending run at) slots) ≡ busies m slots
busies_ended (Replied reply) run at m slots = refl
busies_ended Overran None at m slots = refl
busies_ended Overran (Some r) at m slots = busies_overran m r.number at slots
busies_ended Abandoned run at m slots = refl
busies_ended (Composed r children) run at m slots = refl

pub slotted_item : (item : Item) (T : Trace) → IsRight item (shown T) → AreSlotsSound T → AreSlotsSound (item ∷ T)
slotted_item (Opened pool wants) T right sound = absurd right.0
slotted_item (Resumed counts rs) T right sound = slotted_of None T (Resumed counts rs ∷ T) refl refl tt sound sound.busy
slotted_item (Accepted a) T right sound = slotted_of None T (Accepted a ∷ T) refl refl tt sound sound.busy
slotted_item (Ordered r key) T right sound =
    slotted_of (event_of (Ordered r key)) T (Ordered r key ∷ T) refl refl right.1 sound
    (λ m. tally_push (is_number m) r (live T) ∙ (ap (λ n. n + one_if (r.number == m)) (sound.busy m) ∙ sym (busies_ran m r.slot r.number key r.start r.at (slots T) right.1.0.fits)))
slotted_item (Prewarming o at) T right sound =
    slotted_of (event_of (Prewarming o at)) T (Prewarming o at ∷ T) refl refl right.1 sound (λ m. sound.busy m ∙ sym (busies_prewarming m o.slot o.run o.kind o.memory (slots T) right.1.0.fits))
slotted_item (Removed containers at) T right sound =
    slotted_of (event_of (Removed containers at)) T (Removed containers at ∷ T) refl refl right.1 sound (λ m. sound.busy m ∙ sym (busies_removed m (map (λ (c : Container). c.slot) containers) (slots T)))
slotted_item (Begun run at) T right sound =
    slotted_of (event_of (Begun run at)) T (Begun run at ∷ T) refl refl right.1 sound
    (λ m. tally_updated (is_number run) (is_number m) (begun at) (live T) (λ x. refl) ∙ (sound.busy m ∙ sym (busies_begun m _ at (slots T))))
slotted_item (Answered run alive at) T right sound =
    slotted_of (event_of (Answered run alive at)) T (Answered run alive at ∷ T) refl refl right.1 sound
    (λ m. answered_slots run alive at m T right.0.0 (first_with (runs run) (slots T)) right.0.1 refl right.1.0 sound)
slotted_item (Lost run at) T right sound =
    slotted_of (event_of (Lost run at)) T (Lost run at ∷ T) refl refl right.1 sound (λ m. lost_slots run m T (first_with (holds run) (slots T)) refl right.1.0 sound)
slotted_item (Gone slot generation at) T right sound =
    slotted_of (event_of (Gone slot generation at)) T (Gone slot generation at ∷ T) refl refl right.1 sound (λ m. sound.busy m ∙ sym (busies_gone m slot generation (slots T)))
slotted_item (Ended e) T right sound =
    slotted_of (event_of (Ended e)) T (Ended e ∷ T) refl refl right.1 sound (λ m. sound.busy m ∙ sym (busies_ended e.ending e.run e.at m (slots T)))
slotted_item (Drawn id at) T right sound = slotted_of None T (Drawn id at ∷ T) refl refl tt sound sound.busy
slotted_item (Fired r) T right sound = slotted_of None T (Fired r ∷ T) refl refl tt sound sound.busy
slotted_item (Swept at) T right sound = slotted_of None T (Swept at ∷ T) refl refl tt sound sound.busy
slotted_item (Drained at) T right sound = slotted_of None T (Drained at ∷ T) refl refl tt sound sound.busy
slotted_item (Reopened at) T right sound =
    slotted_of (event_of (Reopened at)) T (Reopened at ∷ T) refl refl right.1 sound (λ m. sym (busies_emptied m (slots T)))
slotted_item (Archived until at) T right sound = slotted_of None T (Archived until at ∷ T) refl refl tt sound sound.busy

-- the slots after an item
pub slots_item : (item : Item) (T : Trace) → IsRight item (shown T) → AreSlotsSound T → slots (item ∷ T) ≡ slots_by (event_of item) (slots T)
slots_item (Opened pool wants) T right sound = absurd right.0
slots_item (Resumed counts rs) T right sound = refl
slots_item (Accepted a) T right sound = refl
slots_item (Ordered r key) T right sound = slots_one (event_of (Ordered r key)) T right.1 sound
slots_item (Prewarming o at) T right sound = slots_one (event_of (Prewarming o at)) T right.1 sound
slots_item (Removed containers at) T right sound = slots_one (event_of (Removed containers at)) T right.1 sound
slots_item (Begun run at) T right sound = slots_one (event_of (Begun run at)) T right.1 sound
slots_item (Answered run alive at) T right sound = slots_one (event_of (Answered run alive at)) T right.1 sound
slots_item (Lost run at) T right sound = slots_one (event_of (Lost run at)) T right.1 sound
slots_item (Gone slot generation at) T right sound = slots_one (event_of (Gone slot generation at)) T right.1 sound
slots_item (Ended e) T right sound = slots_one (overrun_of e.ending e.run e.at) T right.1 sound
slots_item (Drawn id at) T right sound = refl
slots_item (Fired r) T right sound = refl
slots_item (Swept at) T right sound = refl
slots_item (Drained at) T right sound = refl
slots_item (Reopened at) T right sound = slots_one (event_of (Reopened at)) T right.1 sound
slots_item (Archived until at) T right sound = refl

-- ---- at first

pub vacant_held : (n : ℕ) → memory_held (replicate n vacant_slot) ≡ 0
vacant_held zero = refl
vacant_held (suc n) = let rest = vacant_held n in let sum = sum_by-cons size vacant_slot (replicate n vacant_slot) in omega (arith, rest, sum)

vacant_busies : (m n : ℕ) → busies m (replicate n vacant_slot) ≡ 0
vacant_busies m zero = refl
vacant_busies m (suc n) = let rest = vacant_busies m n in omega (arith, rest)

pub slots_opened : (pool : ℕ) (wants : List Prewarm) → slots (Opened pool wants ∷ []) ≡ replicate (slot_count pool) vacant_slot
slots_opened pool wants = begin (slot_count pool)

pub slotted_start : (pool : ℕ) (wants : List Prewarm) → AreSlotsSound (Opened pool wants ∷ [])
slotted_start pool wants = record {
  fit = tt;
  within = let none = vacant_held (slot_count pool) in rw (slots_opened pool wants) (omega (arith, none));
  busy = λ m. sym (ap (busies m) (slots_opened pool wants) ∙ vacant_busies m (slot_count pool));
}

-- ---- which runs are live

pub runs_in_slots : (T : Trace) → AreSlotsSound T → StandInSlots T
runs_in_slots T sound run = (both (live_run T run) (first_with (runs run) (slots T)) refl refl, once)
  where
    once : tally (has (runs run)) (slots T) ≤ 1
    once = let le = tally_sub (has (holds run)) (has (runs run)) (slots T) (λ x h. runs_holds run x.state h) in let most = held_once T sound run in omega (arith, le, most)

    both : (o : Option Run) (s : Option Slot) → live_run T run ≡ o → first_with (runs run) (slots T) ≡ s → is_some o ≡ is_some s
    both None None e f = refl
    both None (Some s) e f =
        let none = tally_none (is_number run) (live T) e in
        let some = tally_some (has (runs run)) s (slots T) f in
        let same = sound.busy run in
        absurd (omega (arith, none, some, same))
    both (Some r) None e f =
        let some = tally_some (is_number run) r (live T) e in
        let none = tally_none (has (runs run)) (slots T) f in
        let same = sound.busy run in
        absurd (omega (arith, none, some, same))
    both (Some r) (Some s) e f = refl
