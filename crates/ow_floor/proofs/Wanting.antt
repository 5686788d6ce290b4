-- When something is to be done.
use Rattle.std.proofs.Common.{◌≡◌, ℕ, Bool, true, false, cond, List, [], Option, Some, None, refl, sym, ◌∙◌, subst}
use Rattle.std.specs.List.{find}
use Rattle.std.specs.Prelude.{OnErr, Result, Ok, Err}
use Rattle.ow_slots.specs.declared.keys.Key.{Key}
use Rattle.ow_slots.specs.declared.keys.Start.{Start}
use Rattle.ow_slots.specs.declared.keys.Start.TheVariants as starts
use Rattle.ow_slots.specs.declared.states.Slot.{Slot}
use Rattle.ow_traits.specs.declared.replies.Kind.{Kind}
use Rattle.ow_pool.specs.declared.answers.Place.{Place}
use Rattle.ow_pool.specs.declared.answers.Place.TheVariants as places
use Rattle.ow_pool.specs.declared.answers.Unplaced.TheVariants as unplaced
use Rattle.ow_pool.specs.Candidates.{candidates_from, numbers_of, shortest}
use Rattle.ow_pool.specs.Rules.{fresh, makes_room, placed, prewarmed, removal, remove_or_wait, run_or, warmest}
use Rattle.ow_floor.specs.declared.activations.Open.{Open}
use Rattle.ow_floor.specs.declared.answers.Idle.TheVariants.{Empty}
use Rattle.ow_floor.specs.declared.answers.Order.TheVariants as orders
use Rattle.ow_floor.specs.View.{Shown, key_of, waits}
use Rattle.ow_floor.specs.Trace.{Trace, shown}
use Rattle.ow_floor.specs.Laws.{Stands}
use Rattle.ow_floor.specs.Calls.{HasWork, order_by, order_on, place_on}
use Rattle.ow_floor.specs.Store.{Store, opens, show}

abbrev IsWork : Place → Type 0
IsWork p = p ≡ places.Nothing unplaced.Empty → ⊥

run_work : (start : Start) (o : Option ℕ) (other : Place) → IsWork other → IsWork (run_or start o other)
run_work start None other rest = rest
run_work start (Some slot) other rest = λ e. cc

room_work : (o : Option (List ℕ)) → IsWork (remove_or_wait o)
room_work None = λ e. cc
room_work (Some slots) = λ e. cc

wait_work : (b : Bool) (p : Place) → IsWork p → IsWork (cond b (places.Nothing unplaced.NoRoom) p)
wait_work true p rest = λ e. cc
wait_work false p rest = rest

placed_work : (slots : List Slot) (key : Key) (pool : ℕ) → IsWork (placed slots key pool)
placed_work slots key pool =
    run_work starts.Warm (warmest key slots) _ (run_work starts.Prewarmed (prewarmed key slots) _ (run_work starts.Cold (fresh key slots pool) (removal slots key.memory pool)
    (wait_work (makes_room slots key.memory pool []) _ (room_work (numbers_of (shortest (makes_room slots key.memory pool) [] (candidates_from 0 slots)))))))

order_work : (p : Place) (o : Open) (v : Shown) → IsWork p → order_by p (Some o) v ≡ orders.Nothing Empty → ⊥
order_work (places.Run slot start) o v work = λ e. cc
order_work (places.Prewarm slot kind memory) o v work = λ e. cc
order_work (places.Remove slots) o v work = λ e. cc
order_work (places.Nothing unplaced.Empty) o v work = λ e. work refl
order_work (places.Nothing unplaced.NoRoom) o v work = λ e. cc

-- an activation waits
pub head_work : (R : Store) (o : Open) → find waits (opens R.spots R.tasks) ≡ Some o → HasWork (show R)
head_work R o found =
    let same : order_on (show R) ≡ order_by (placed R.slots (key_of o.task) R.pool) (Some o) (show R) = rw found refl in
    λ e. order_work (placed R.slots (key_of o.task) R.pool) o (show R) (placed_work R.slots (key_of o.task) R.pool) (sym same ∙ e)

-- a container is wanted ahead, or removed
pub prewarm_work : (R : Store) (slot : ℕ) (kind : Kind) (memory : ℕ) → place_on (show R) ≡ places.Prewarm slot kind memory → HasWork (show R)
prewarm_work R slot kind memory is = rw is (λ e. cc)

pub removal_work : (R : Store) (slots : List ℕ) → place_on (show R) ≡ places.Remove slots → HasWork (show R)
removal_work R slots is = rw is (λ e. cc)

pub on_err : {A E : Type 0} (r : Result A E) (P : Type 0) → P → OnErr r P
on_err (Ok a) P h = tt
on_err (Err e) P h = h

-- of a floor
pub wanted_told : {A E : Type 0} (R : Store) (r : Result A E) → OnErr r (HasWork (show R)) → OnErr r ((T : Trace) → Stands (show R) T → HasWork (shown T))
wanted_told R (Ok a) h = tt
wanted_told R (Err e) h = λ T st. subst (λ (v : Shown). HasWork v) st.is h
