-- A reply of a live run that a sweep recorded is late.
use Rattle.std.proofs.Common.{◌≡◌, ℕ, true, false, Option, Some, None, refl, ◌∙◌}
use Rattle.std.specs.Prelude.{is_some}
use Rattle.ow_traits.specs.declared.replies.RunReply.{RunReply}
use Rattle.ow_slots.specs.declared.states.Slot.{Slot}
use Rattle.ow_slots.specs.Slots.{first_with}
use Rattle.ow_slots.specs.State.{recorded_of, runs}
use Rattle.ow_slot_laws.specs.Life.{overran_at}
use Rattle.ow_slot_laws.proofs.Standing.{runs_stand}
use Rattle.ow_floor.specs.declared.answers.Answered.TheVariants as answers
use Rattle.ow_floor.specs.declared.runs.Run.{Run}
use Rattle.ow_floor.specs.Trace.{Trace, life, live, live_run, pool_of, slot_count, slots}
use Rattle.ow_floor.specs.Laws.{IsSound}
use Rattle.ow_floor.specs.Calls.{answer_to}
use Rattle.ow_floor.proofs.Numbers.{number_is}
use Rattle.ow_floor.proofs.Slotting.{runs_in_slots}

late_in : (at run : ℕ) (reply : RunReply) (T : Trace) (r : Run) (sweep : ℕ) (o : Option Slot) → first_with (runs run) (slots T) ≡ o → IsSound T → live_run T run ≡ Some r → overran_at run (life T) ≡ Some sweep
    → answer_to at run reply T ≡ Some (answers.Late run sweep)
late_in at run reply T r sweep None here sound found recorded =
    let same = (runs_in_slots T sound.slotted run).0 in
    let no : is_some (Some r) ≡ is_some (first_with (runs run) (slots T)) = rw found at same in
    let never : true ≡ false = rw here at no in
    cc
late_in at run reply T r sweep (Some s) here sound found recorded =
    let stands = runs_stand (life T) (slot_count (pool_of T)) sound.slotted.fit in
    let moment : recorded_of s.state ≡ Some sweep = stands.recorded run s here ∙ recorded in
    rw (here, found) (rw (here, moment, number_is run r (live T) found) refl)

pub late : (at run : ℕ) (reply : RunReply) (T : Trace) (r : Run) (sweep : ℕ) → IsSound T → live_run T run ≡ Some r → overran_at run (life T) ≡ Some sweep → answer_to at run reply T ≡ Some (answers.Late run sweep)
late at run reply T r sweep sound found recorded = late_in at run reply T r sweep (first_with (runs run) (slots T)) refl sound found recorded
