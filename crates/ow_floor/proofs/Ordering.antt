-- What each order does, over the kept lists.
use Rattle.std.proofs.Common.{◌≡◌, ◌+◌, ℕ, List, [], ◌∷◌, None, length, refl, sym, ap, ◌∙◌, subst}
use Rattle.std.specs.List.{find}
use Rattle.std.specs.Prelude.{IfOk, OnOk, Result, Ok, Err}
use Rattle.ow_records.specs.declared.activations.Activation.{Activation}
use Rattle.ow_traits.specs.declared.replies.Kind.{Kind}
use Rattle.ow_slots.specs.declared.keys.Key.{Key}
use Rattle.ow_slots.specs.declared.keys.Start.{Start}
use Rattle.ow_pool.specs.declared.answers.Place.TheVariants as places
use Rattle.ow_pool.specs.declared.answers.Unplaced.{Unplaced}
use Rattle.ow_pool.specs.Rules.{IsWithinPool}
use Rattle.ow_slot_laws.specs.Life as lives
use Rattle.ow_slot_laws.specs.Fitting.{changed}
use Rattle.ow_floor.specs.declared.answers.Container.{Container}
use Rattle.ow_floor.specs.declared.answers.Idle.TheVariants.{Empty}
use Rattle.ow_floor.specs.declared.answers.Order.{Order}
use Rattle.ow_floor.specs.declared.answers.Order.TheVariants as orders
use Rattle.ow_floor.specs.declared.answers.RunOrder.{RunOrder}
use Rattle.ow_floor.specs.declared.runs.Run.{Run}
use Rattle.ow_floor.specs.View.{containers_of, generation_after, generation_in, key_of, order_for, prewarm_of, waits}
use Rattle.ow_floor.specs.Trace.{Trace, Ordered, Prewarming, Removed}
use Rattle.ow_floor.specs.Growth.{grown}
use Rattle.ow_floor.specs.Laws.{Grows, Stands}
use Rattle.ow_floor.specs.Calls.{idle_of, items_on, next_items, next_order, order_on, place_on, run_of}
use Rattle.ow_floor.specs.Ends.{IsOrdered}
use Rattle.ow_floor.specs.Store.{IsGood, IsSpot, Store, counted_in, event_in, opens, ordered_in, prewarmed_in, show, started_in}
use Rattle.ow_floor.proofs.Coming.{numbers}
use Rattle.ow_floor.proofs.Growing.{grows_next, told_next}
use Rattle.ow_floor.proofs.Showing.{good_counted, good_event, good_started, show_ordered, show_prewarmed, show_removed}

pub removal_ordered : (R S : Store) (at : ℕ) (ns : List ℕ) (cs : List Container) → place_on (show R) ≡ places.Remove ns → cs ≡ containers_of ns R.slots → S ≡ event_in at (lives.Removed ns) R
    → IsOrdered at R S (orders.Remove cs)
removal_ordered R S at ns cs placed containers is =
    let items : items_on at (show R) ≡ Removed (containers_of ns R.slots) at ∷ [] = rw placed refl in
    let order : order_on (show R) ≡ orders.Remove (containers_of ns R.slots) = rw placed refl in
    record {
      shows = ap show is ∙ (show_removed R at ns (containers_of ns R.slots) (numbers ns R.slots) ∙ ap (λ (xs : Trace). grown xs (show R)) (sym items));
      tells = ap orders.Remove containers ∙ sym order;
    }

pub prewarm_ordered : (R S : Store) (at n slot generation : ℕ) (kind : Kind) (memory : ℕ) → place_on (show R) ≡ places.Prewarm slot kind memory → n ≡ length R.runs + 1
    → generation ≡ generation_in slot R.slots + 1 → S ≡ prewarmed_in at (record { run = n; slot = slot; generation = generation; kind = kind; memory = memory }) R
    → IsOrdered at R S (orders.Prewarm (record { run = n; slot = slot; generation = generation; kind = kind; memory = memory }))
prewarm_ordered R S at n slot generation kind memory placed number rises is =
    let same : record { run = n; slot = slot; generation = generation; kind = kind; memory = memory } ≡ prewarm_of (length R.runs + 1) slot kind memory R.slots = rw (number, rises) refl in
    let items : items_on at (show R) ≡ Prewarming (prewarm_of (length R.runs + 1) slot kind memory R.slots) at ∷ [] = rw placed refl in
    let order : order_on (show R) ≡ orders.Prewarm (prewarm_of (length R.runs + 1) slot kind memory R.slots) = rw placed refl in
    record {
      shows = ap show (is ∙ ap (λ o. prewarmed_in at o R) same) ∙ (show_prewarmed R at (prewarm_of (length R.runs + 1) slot kind memory R.slots) ∙ ap (λ (xs : Trace). grown xs (show R)) (sym items));
      tells = ap orders.Prewarm same ∙ sym order;
    }

pub good_prewarm : (R S : Store) (at n slot generation : ℕ) (kind : Kind) (memory : ℕ) → IsWithinPool (changed (lives.Prewarming slot n kind memory) R.slots) R.pool → IsGood R
    → S ≡ prewarmed_in at (record { run = n; slot = slot; generation = generation; kind = kind; memory = memory }) R → IsGood S
good_prewarm R S at n slot generation kind memory within good is =
    subst (λ (U : Store). IsGood U) (sym is) (good_event (counted_in R) at (lives.Prewarming slot n kind memory) within (good_counted R good))

pub run_ordered : (R S : Store) (at spot n slot generation : ℕ) (start : Start) (key : Key) (task : Activation) (o : RunOrder) (s : IsSpot waits R.spots R.tasks spot) → place_on (show R) ≡ places.Run slot start
    → task ≡ s.item.task → key ≡ key_of s.item.task → n ≡ length R.runs + 1 → generation ≡ generation_after slot start R.slots
    → o ≡ order_for n slot generation start task
    → S ≡ ordered_in spot (record { number = n; slot = slot; generation = generation; start = start; at = at; id = task.id; begun = None }) key R
    → IsOrdered at R S (orders.Run o)
run_ordered R S at spot n slot generation start key task o s placed same own number rises told is =
    let r = run_of (length R.runs + 1) slot start at s.item.task R.slots in
    let run : record { number = n; slot = slot; generation = generation; start = start; at = at; id = task.id; begun = None } ≡ r = rw (number, rises, same) refl in
    let items : items_on at (show R) ≡ Ordered r (key_of s.item.task) ∷ [] = rw (placed, s.found) refl in
    let order : order_on (show R) ≡ orders.Run (order_for (length R.runs + 1) slot (generation_after slot start R.slots) start s.item.task) = rw (placed, s.found) refl in
    let runs : o ≡ order_for (length R.runs + 1) slot (generation_after slot start R.slots) start s.item.task = told ∙ rw (number, rises, same) refl in
    record {
      shows = ap show (is ∙ (ap (λ (x : Run). ordered_in spot x key R) run ∙ ap (λ (k : Key). ordered_in spot r k R) own))
          ∙ (show_ordered R spot r (key_of s.item.task) s ∙ ap (λ (xs : Trace). grown xs (show R)) (sym items));
      tells = ap orders.Run runs ∙ sym order;
    }

pub good_run : (R S : Store) (spot : ℕ) (r : Run) (key : Key) → IsSpot waits R.spots R.tasks spot → IsWithinPool (changed (lives.Ran r.slot r.number key r.start r.at) R.slots) R.pool → IsGood R
    → S ≡ ordered_in spot r key R → IsGood S
good_run R S spot r key s within good is =
    subst (λ (U : Store). IsGood U) (sym is) (good_event (started_in spot r R) r.at (lives.Ran r.slot r.number key r.start r.at) within (good_started R spot r s good))

pub nothing_ordered : (R : Store) (at : ℕ) (reason : Unplaced) → place_on (show R) ≡ places.Nothing reason → IsOrdered at R R (orders.Nothing (idle_of reason))
nothing_ordered R at reason placed =
    let items : items_on at (show R) ≡ [] = rw placed refl in
    let order : order_on (show R) ≡ orders.Nothing (idle_of reason) = rw placed refl in
    record { shows = ap (λ (xs : Trace). grown xs (show R)) (sym items); tells = sym order }

pub none_ordered : (R : Store) (at slot : ℕ) (start : Start) → place_on (show R) ≡ places.Run slot start → find waits (opens R.spots R.tasks) ≡ None → IsOrdered at R R (orders.Nothing Empty)
none_ordered R at slot start placed none =
    let items : items_on at (show R) ≡ [] = rw (placed, none) refl in
    let order : order_on (show R) ≡ orders.Nothing Empty = rw (placed, none) refl in
    record { shows = ap (λ (xs : Trace). grown xs (show R)) (sym items); tells = sym order }

-- ---- of a floor

pub told_ok : {E : Type 0} (R S : Store) (at : ℕ) (r : Result Order E) → IfOk r (λ o. IsOrdered at R S o) → IfOk r (λ o. (T : Trace) → Stands (show R) T → o ≡ next_order T)
told_ok R S at (Ok o) made = λ T st. told_next R o made.tells T st
told_ok R S at (Err e) made = tt

pub grows_ok : {E : Type 0} (R S : Store) (at : ℕ) (r : Result Order E) → IfOk r (λ o. IsOrdered at R S o) → OnOk r (Grows (show R) (show S) (λ T. next_items at T))
grows_ok R S at (Ok o) made = grows_next R S at made.shows
grows_ok R S at (Err e) made = tt
