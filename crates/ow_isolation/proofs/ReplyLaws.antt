-- A runner's reply leaves the view of each key that may not read in the namespace of what the run carries.
use Rattle.std.proofs.Common.{◌≡◌, ◌++◌, ℕ, false, List, [], ◌∷◌, Option, Some, None, refl, sym, ap, subst}
use Rattle.std.specs.List.{AllByRecursion, find}
use Rattle.ow_packages.specs.Access.{Standing}
use Rattle.ow_tables.specs.Rows.{standing}
use Rattle.ow_records.specs.declared.outcomes.Ending.TheVariants.{Replied}
use Rattle.ow_records.specs.declared.record.Record.{Record}
use Rattle.ow_traits.specs.declared.replies.RunReply.{RunReply}
use Rattle.ow_slots.specs.Slots.{first_with}
use Rattle.ow_slots.specs.State.{runs}
use Rattle.ow_slots.specs.declared.states.Slot.{Slot}
use Rattle.ow_floor.specs.declared.activations.Open.{Open}
use Rattle.ow_floor.specs.declared.runs.Run.{Run}
use Rattle.ow_floor.specs.Calls.{answered_items, busy_run, end_items, leaves_alive, reply_items, run_by}
use Rattle.ow_floor.specs.Laws.{IsSound}
use Rattle.ow_floor.specs.Trace.{Answered, Trace, live_run, open_items, records, shown, slots, task_by}
use Rattle.ow_floor.specs.View.{is_of}
use Rattle.ow_floor.proofs.Coming.{right_reply}
use Rattle.ow_floor.proofs.Soundness.{sound_items}
use Rattle.ow_trees.specs.Steps.{steps_after}
use Rattle.ow_reads.specs.View.{is_visible_record}
use Rattle.ow_tenant.specs.Table.{Table}
use Rattle.ow_tenant.specs.declared.entries.Holder.{Holder}
use Rattle.ow_decide.specs.Decisions.{answered_all, is_opening}
use Rattle.ow_decide.specs.Sight.{Sight}
use Rattle.ow_decide.specs.declared.events.Event.{Event}
use Rattle.ow_hall.specs.History.{History, counted, decision, seen, sight}
use Rattle.ow_hall.proofs.Beginnings.{seen_sound}
use Rattle.ow_isolation.specs.Causes.{AreOfCauses}
use Rattle.ow_isolation.specs.Unseen.{IsHiddenRun, IsUnseen, RepliesLeave}
use Rattle.ow_isolation.proofs.CauseLaws.{all_caused}
use Rattle.ow_isolation.proofs.StepLaws.{alone, ended_in, hidden_records}
use Rattle.ow_isolation.proofs.UnseenLaws.{unseen_leaves}

abbrev AreHidden : Holder → List Record → Type 0
AreHidden h rs = AllByRecursion (λ (r : Record). is_visible_record h.rights r ≡ false) rs

-- a run with which a slot is busy is live
busy_live : (s : Option Slot) (o : Option Run) (r : Run) → run_by s o ≡ Some r → o ≡ Some r
busy_live None o r is = cc
busy_live (Some s) o r is = is

module _ (h : Holder) (rs : Standing) (at run : ℕ) (reply : RunReply) (T : Trace) (sound : IsSound T) (causes : AreOfCauses T) (hidden : IsHiddenRun h run T) where
  ended_hidden : (r : Run) (o : Option Open) → live_run T run ≡ Some r → find (is_of r.id) (open_items T) ≡ o → IsSound ((Answered run (leaves_alive reply) at ∷ end_items at (Replied reply) (Some r) o) ++ T)
      → AreHidden h (records (steps_after rs at T (Answered run (leaves_alive reply) at ∷ end_items at (Replied reply) (Some r) o)))
  ended_hidden r None live found after =
      subst (λ (items : Trace). AreHidden h (records items)) (sym (alone rs at (Answered run (leaves_alive reply) at ∷ []) T refl)) tt
  ended_hidden r (Some o) live found after =
      let items : Trace = Answered run (leaves_alive reply) at ∷ end_items at (Replied reply) (Some r) (Some o) in
      hidden_records h o.task.namespace (steps_after rs at T items) (hidden r o.task live (ap task_by found)) (ended_in rs at run (leaves_alive reply) (Replied reply) r o T found after causes)

  run_hidden : (o : Option Run) → busy_run run (shown T) ≡ o → IsSound (reply_items at run reply (shown T) o ++ T) → AreHidden h (records (steps_after rs at T (reply_items at run reply (shown T) o)))
  run_hidden None busy after = subst (λ (items : Trace). AreHidden h (records items)) (sym (alone rs at [] T refl)) tt
  run_hidden (Some r) busy after =
      ended_hidden r (find (is_of r.id) (open_items T)) (busy_live (first_with (runs run) (slots T)) (live_run T run) r busy) refl after

  reply_hidden : AreHidden h (records (steps_after rs at T (answered_items at run reply T)))
  reply_hidden = run_hidden (busy_run run (shown T)) refl (sound_items (answered_items at run reply T) T (right_reply at run reply T sound) sound).0

reply_unseen : (h : Holder) (S : Sight) (run : ℕ) (reply : RunReply) → IsSound S.trace → AreOfCauses S.trace → IsHiddenRun h run S.trace → AreHidden h (records (answered_all S run reply))
reply_unseen h S run reply sound causes hidden = reply_hidden h (standing S.rows) S.moment run reply S.trace sound causes hidden

pub replies_leave : (t : Table) (B : History) → RepliesLeave t B
replies_leave t B e run reply key h is holds hidden =
    unseen_leaves t B e key h holds (ap is_opening is)
    (subst (λ (v : Event). IsUnseen h (seen t B).rows (decision t B e.at v)) (sym is)
    (record { changes = tt; records = reply_unseen h (sight t (seen t B) (counted B) e.at) run reply (seen_sound t B) (all_caused t B) hidden; archived = tt }))
