-- Where what a run carries isn't late.
use Rattle.std.proofs.Common.{◌≡◌, ◌&&◌, ℕ, Bool, true, false, cond, [], Option, Some, None, refl}
use Rattle.std.specs.List.{find}
use Rattle.std.specs.Prelude.{is_none}
use Rattle.ow_slots.specs.declared.states.Slot.{Slot}
use Rattle.ow_slots.specs.Slots.{IsThere, first_with}
use Rattle.ow_slots.specs.State.{IsUnrecorded, recorded_of, runs}
use Rattle.ow_floor.specs.declared.activations.Open.{Open}
use Rattle.ow_floor.specs.declared.runs.Run.{Run}
use Rattle.ow_floor.specs.View.{is_of}
use Rattle.ow_floor.specs.Trace.{Trace}
use Rattle.ow_floor.specs.Calls.{is_late, late_items, late_of}
use Rattle.ow_floor.specs.Store.{Store, opens, show}

recorded_by : (items : Trace) (b : Bool) (o : Option ℕ) → (o ≡ None → ⊥) → cond (is_none o && b) items [] ≡ []
recorded_by items b None h = absurd (h refl)
recorded_by items b (Some at) h = refl

-- a sweep recorded it, or no slot is busy with the run
recorded_items : (at : ℕ) (r : Run) (s : Option Slot) (o : Option Open) → (IsThere IsUnrecorded s → ⊥) → late_items at r s o ≡ []
recorded_items at r None o h = refl
recorded_items at r (Some s) None h = refl
recorded_items at r (Some s) (Some o) h = recorded_by _ (is_late at r o.task) (recorded_of s.state) h

pub not_late_recorded : (at : ℕ) (r : Run) (R : Store) → (IsThere IsUnrecorded (first_with (runs r.number) R.slots) → ⊥) → late_of at r (show R) ≡ []
not_late_recorded at r R h = recorded_items at r (first_with (runs r.number) R.slots) (find (is_of r.id) (opens R.spots R.tasks)) h

closed_items : (at : ℕ) (r : Run) (s : Option Slot) → late_items at r s None ≡ []
closed_items at r None = refl
closed_items at r (Some s) = refl

-- it isn't open
pub not_late_closed : (at : ℕ) (r : Run) (R : Store) → find (is_of r.id) (opens R.spots R.tasks) ≡ None → late_of at r (show R) ≡ []
not_late_closed at r R none = rw none (closed_items at r (first_with (runs r.number) R.slots))

in_time_by : (items : Trace) (b c : Bool) → c ≡ false → cond (b && c) items [] ≡ []
in_time_by items true c e = rw e refl
in_time_by items false c e = refl

in_time_items : (at : ℕ) (r : Run) (s : Option Slot) (o : Open) → is_late at r o.task ≡ false → late_items at r s (Some o) ≡ []
in_time_items at r None o e = refl
in_time_items at r (Some s) o e = in_time_by _ (is_none (recorded_of s.state)) (is_late at r o.task) e

-- it is in time
pub not_late_yet : (at : ℕ) (r : Run) (R : Store) (o : Open) → find (is_of r.id) (opens R.spots R.tasks) ≡ Some o → is_late at r o.task ≡ false → late_of at r (show R) ≡ []
not_late_yet at r R o found e = rw found (in_time_items at r (first_with (runs r.number) R.slots) o e)
