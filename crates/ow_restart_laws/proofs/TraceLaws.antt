-- After what is decided, all that happened is still within the greatest moment, and what is taken over may be read again.
use Rattle.std.proofs.Common.{◌≡◌, ◌≤◌, ◌++◌, ◌&&◌, ◌⊎◌, ℕ, Bool, true, false, List, [], ◌∷◌, inl, inr, max, nat_le, not, option_and_then, Option, Some, None, Result, Ok, Err, IfOk, IfSome, refl, sym, ap, ◌∙◌, subst, arith}
use Rattle.std.specs.List.{AllByRecursion}
use Rattle.std.proofs.Math.Nat.{max-le}
use Rattle.std.proofs.lemmas.Bool.{and_from, and_parts, le-leb, leb-true}
use Rattle.ow_value.specs.Decimal.{digits_of}
use Rattle.ow_value.specs.Value.{Pairs}
use Rattle.ow_records.specs.declared.ids.Id.{Id}
use Rattle.ow_records.specs.declared.record.Record.{Record}
use Rattle.ow_records.specs.declared.unrecorded.Unrecorded.{Unrecorded}
use Rattle.ow_records.specs.Unrecorded.{abandoned_record}
use Rattle.ow_traits.specs.Rows.{text_of}
use Rattle.ow_floor.specs.declared.runs.Run.{Run}
use Rattle.ow_floor.specs.View.{begun, is_number}
use Rattle.ow_floor.specs.Trace.{Accepted, Answered, Begun, Drawn, End, Ended, Fired, Item, Lost, Ordered, Reopened, Resumed, Trace, last, live, live_after}
use Rattle.ow_floor.proofs.Firsts.{all_push, all_removed, all_updated}
use Rattle.ow_row_text.specs.Item.{count_key}
use Rattle.ow_row_text.specs.Sorted.{Entries}
use Rattle.ow_row_text.specs.declared.item.Item.{Item as KeptItem}
use Rattle.ow_row_text.specs.declared.item.Item.TheVariants as items
use Rattle.ow_keep.specs.Allowed.{are_durations, has_record, is_called, is_counted, is_drawn, is_fit_open, is_formed, is_moment}
use Rattle.ow_keep.specs.Judged.{judged}
use Rattle.ow_keep.specs.Kept.{MayStand}
use Rattle.ow_keep.specs.Split.{Parts as KeptParts, split}
use Rattle.ow_keep.specs.declared.allowed.TheConstants.{GREATEST_COUNT, GREATEST_MOMENT}
use Rattle.ow_keep.proofs.Whole.{judged-sound}
use Rattle.ow_commits.proofs.Shallow.{abandoned_shallow}
use Rattle.ow_commits.specs.Opening.{abandoned, resumed_records}
use Rattle.ow_commits.specs.Shallow.{AbandonedAreShallow, IsShallowEnding}
use Rattle.ow_commits.proofs.Ids.{all_both}
use Rattle.ow_commits.proofs.Picking.{counts_picked, dones_picked, each_picked, opens_picked, pick_count, pick_done, pick_open}
use Rattle.ow_records.specs.declared.outcomes.Ending.{Ending}
use Rattle.ow_records.specs.declared.outcomes.Ending.TheVariants.{Abandoned, Composed, Overran, Replied}
use Rattle.ow_tables.specs.Rows.{standing}
use Rattle.ow_trees.specs.Driven.{IsDriven}
use Rattle.ow_trees.proofs.Children.{child_of, end_of}
use Rattle.ow_decide.specs.declared.events.Event.{Event}
use Rattle.ow_decide.specs.declared.events.Event.TheVariants as events
use Rattle.ow_decide.specs.Sight.{Sight}
use Rattle.ow_decide.specs.Opening.{are_resumable, is_fresh, opened_decision, parts_taken, taken_if}
use Rattle.ow_decide.specs.Decisions.{decide}
use Rattle.ow_decide.specs.Chain.{AreSteps, IsAccepted, IsEnd, IsEndBy, IsFired, IsGivenFor, IsOneOf, IsStep}
use Rattle.ow_decide.proofs.ChainLaws.{all_one_of, decided_steps}
use Rattle.ow_entity.specs.declared.actions.Action.{Action}
use Rattle.ow_http.specs.declared.call.Call.{Call}
use Rattle.ow_http.specs.declared.call_refusal.CallRefusal.{CallRefusal}
use Rattle.ow_names.specs.declared.full.FullName.{FullName}
use Rattle.ow_records.specs.declared.activations.Activation.{Activation}
use Rattle.ow_restart_laws.specs.Lasting.{AreEarly, AreWritable, IsDue, IsEarly, IsLasting, IsTimely}
use Rattle.ow_restart_laws.specs.Laws.{TracesLast}
use Rattle.ow_restart_laws.proofs.Callees.{callee_good}
use Rattle.ow_restart_laws.proofs.Children.{above, child_timely, composed_early, form_fits}
use Rattle.ow_restart_laws.proofs.Fires.{IsShallowCall, IsShallowGiven, call_shallow, fire_lasts, trigger_good}

-- ---- ids that were drawn

-- an id that was drawn counts from 1
count_some : (id : Id) (o : Option ℕ) → is_counted id o ≡ true → nat_le 1 id.count ≡ true
count_some id None e = cc
count_some id (Some n) e = (and_parts (nat_le 1 id.count) (nat_le id.count n) e).0

drawn_counted : (all : Entries) (id : Id) → is_drawn all id ≡ true → nat_le 1 id.count ≡ true
drawn_counted all id e = count_some id (option_and_then digits_of (text_of (count_key id.namespace) all)) e

within_both : (m n most : ℕ) → nat_le m most ≡ true → n ≤ most → nat_le (max m n) most ≡ true
within_both m n most h k = le-leb (max m n) most (max-le (leb-true m most h) k)

-- ---- live runs

begun_due : (at : ℕ) (r : Run) → at ≤ GREATEST_MOMENT → IsDue r → IsDue (begun at r)
begun_due at r small due = record { ordered = due.ordered; began = small }

due_after : (item : Item) (rs : List Run) → IsEarly item → AllByRecursion IsDue rs → AllByRecursion IsDue (live_after item rs)
due_after (Ordered r key) rs early all = all_push IsDue r rs early all
due_after (Begun run at) rs early all = all_updated IsDue (is_number run) (begun at) rs (λ r due. begun_due at r early due) all
due_after (Answered run alive at) rs early all = all_removed IsDue (is_number run) rs all
due_after (Lost run at) rs early all = all_removed IsDue (is_number run) rs all
due_after (Reopened at) rs early all = tt
due_after item rs early all = all

-- each was ordered, and began, no later than the greatest moment
pub live_due : (T : Trace) → AreEarly T → AllByRecursion IsDue (live T)
live_due [] early = tt
live_due (item ∷ T) early = due_after item (live T) early.0 (live_due T early.1)

-- ---- a chain

timely : (S : Sight) (a : Activation) (T : Trace) → S.moment ≤ GREATEST_MOMENT → AreWritable S.rows → a.at ≡ S.moment → IsAccepted S a T → IsTimely a
timely S a T small all now ok = record {
  counted = above a.id.count (last T a.id.namespace) ok.next;
  early = omega (arith, small, now);
  called =
      ap (λ (o : Option Id). is_called o a.action.version a.binding) ok.uncaused
      ∙ (ap (λ (x : Action). is_called None x.version a.binding) ok.callee.action
      ∙ (ap (λ (n : Option FullName). is_called None ok.callee.called.action.version n) ok.callee.binding
      ∙ callee_good S.rows all ok.callee.callee.0 ok.callee.callee.1.0 ok.callee.called ok.callee.callee.1.1));
  formed = form_fits a ok.callee.called.action ok.callee.action ok.callee.form;
}

-- what is given for a fire, by a call or by the office, nests no deeper than a result may
given_shallow : (given : Pairs) → IsGivenFor given → IsShallowGiven given
given_shallow given (inl of) =
    subst IsShallowGiven (sym of.1.1.1.1) (subst (λ (x : Result Call CallRefusal). IfOk x IsShallowCall) of.1.1.1.0 (call_shallow of.0 of.1.0))
given_shallow given (inr shallow) = shallow

fired : (S : Sight) (r : Record) (T : Trace) → S.moment ≤ GREATEST_MOMENT → AreWritable S.rows → IsFired S r T → IsLasting (items.Done r)
fired S r T small all ok =
    let shot = ok.shot in
    let now : ok.fire.at ≡ S.moment = shot.at in
    subst (λ (x : Record). IsLasting (items.Done x)) (sym ok.made)
    (fire_lasts shot.trigger shot.given ok.fire ok.lines (trigger_good shot.name shot.trigger S.rows all shot.row) (given_shallow shot.given shot.source) shot.version shot.params (omega (arith, small, now))
    (subst (λ (x : Record). 1 ≤ x.id.count) ok.made ok.counted))

run_due : (S : Sight) (r : Option Run) → IfSome r (λ x. IsOneOf x (live S.trace)) → AllByRecursion IsDue (live S.trace) → IfSome r IsDue
run_due S None one due = tt
run_due S (Some r) one due = all_one_of IsDue r (live S.trace) one due

-- an end that a floor makes by itself is no composite's
not_composed : (at : ℕ) (ending : Ending) (run : Option Run) (task : Activation) → IsEndBy at ending run task → IsShallowEnding ending
not_composed at (Replied reply) run task by = tt
not_composed at Overran run task by = tt
not_composed at Abandoned run task by = tt
not_composed at (Composed response children) None task by = absurd by
not_composed at (Composed response children) (Some r) task by = absurd by

-- what was accepted: called by name, or a child
accepted_early : (S : Sight) (a : Activation) (T : Trace) → S.moment ≤ GREATEST_MOMENT → AreWritable S.rows → AreEarly T → a.at ≡ S.moment
    → IsAccepted S a T ⊎ IsDriven (standing S.rows) S.moment (Accepted a) T → IsTimely a
accepted_early S a T small all before now (inl ok) = timely S a T small all now ok
accepted_early S a T small all before now (inr driven) =
    child_timely S.rows S.moment driven.composite.task a T small all before (child_of (standing S.rows) S.moment a T driven)

-- what has ended: by a run, or as a composite
ended_early : (S : Sight) (e : End) (T : Trace) → S.moment ≤ GREATEST_MOMENT → AllByRecursion IsDue (live S.trace) → AreEarly T → e.at ≡ S.moment
    → IsEnd S e ⊎ IsDriven (standing S.rows) S.moment (Ended e) T → IsEarly (Ended e)
ended_early S e T small due before now (inl ok) = (omega (arith, small, now), run_due S e.run ok.live due, not_composed S.moment e.ending e.run e.task ok.by)
ended_early S e T small due before now (inr driven) = composed_early S.moment e T small before (end_of (standing S.rows) S.moment e T driven)

early_step : (S : Sight) (item : Item) (T : Trace) → S.moment ≤ GREATEST_MOMENT → AreWritable S.rows → AllByRecursion IsDue (live S.trace) → AreEarly T → IsStep S item T → IsEarly item
early_step S (Accepted a) T small all due before step = accepted_early S a T small all before step.at step.is
early_step S (Ordered r key) T small all due before step =
    let now : r.at ≡ S.moment = step.at in record { ordered = omega (arith, small, now); began = subst (λ (o : Option ℕ). IfSome o (λ at. at ≤ GREATEST_MOMENT)) (sym step.is) tt }
early_step S (Begun run at) T small all due before step = let now : at ≡ S.moment = step.at in omega (arith, small, now)
early_step S (Ended e) T small all due before step = ended_early S e T small due before step.at step.is
early_step S (Resumed counts rs) T small all due before step = absurd step.is
early_step S (Drawn id at) T small all due before step = above id.count (last T id.namespace) step.is
early_step S (Fired r) T small all due before step = fired S r T small all step.is
early_step S item T small all due before step = tt

early_steps : (S : Sight) (items : Trace) → S.moment ≤ GREATEST_MOMENT → AreWritable S.rows → AreEarly S.trace → AreSteps S items → AreEarly items
early_steps S [] small all early steps = tt
early_steps S (item ∷ items) small all early steps =
    let before = early_steps S items small all early steps.1 in
    (early_step S item (items ++ S.trace) small all (live_due S.trace early) (all_both IsEarly items S.trace before early) steps.0, before)

-- ---- what is taken over

count_told : (all : Entries) (i : KeptItem) (id : Id) → pick_count i ≡ Some id → MayStand all i → 1 ≤ id.count
count_told all (items.Count n k) id e may =
    let is : ◌≡◌ {A = Id} (record { namespace = n; count = k }) id = cc in
    let some = and_parts (nat_le 1 k) (nat_le k GREATEST_COUNT) may.allowed in
    subst (λ (x : Id). 1 ≤ x.count) is (leb-true 1 k some.0)
count_told all (items.Version v) id e may = cc
count_told all (items.Archive a) id e may = cc
count_told all (items.Note n) id e may = cc
count_told all (items.Row r) id e may = cc
count_told all (items.Open u) id e may = cc
count_told all (items.Done r) id e may = cc

done_lasts : (all : Entries) (r : Record) → MayStand all (items.Done r) → IsLasting (items.Done r)
done_lasts all r may =
    let within = is_moment r.span.end && (is_called r.cause r.version r.notes.binding && are_durations r.notes) in
    let parts = and_parts (is_drawn all r.id) within may.allowed in
    record { shallow = may.shallow; fit = and_from (nat_le 1 r.id.count) within (drawn_counted all r.id parts.0) parts.1 }

done_told : (all : Entries) (i : KeptItem) (r : Record) → pick_done i ≡ Some r → MayStand all i → IsLasting (items.Done r)
done_told all (items.Done d) r e may = let same : d ≡ r = cc in subst (λ (x : Record). IsLasting (items.Done x)) same (done_lasts all d may)
done_told all (items.Version v) r e may = cc
done_told all (items.Archive a) r e may = cc
done_told all (items.Note n) r e may = cc
done_told all (items.Count n k) r e may = cc
done_told all (items.Row x) r e may = cc
done_told all (items.Open u) r e may = cc

abandoned_each : (P : Record → Type 0) (at : ℕ) (us : List Unrecorded) → AllByRecursion (λ u. P (abandoned_record u at)) us → AllByRecursion P (abandoned at us)
abandoned_each P at [] all = tt
abandoned_each P at (u ∷ us) all = (all.0, abandoned_each P at us all.1)

module _ (shallow : AbandonedAreShallow) (at : ℕ) (small : at ≤ GREATEST_MOMENT) where
  abbrev LastsAbandoned : Unrecorded → Type 0
  LastsAbandoned u = IsLasting (items.Done (abandoned_record u at))

  open_lasts : (all : Entries) (u : Unrecorded) → MayStand all (items.Open u) → LastsAbandoned u
  open_lasts all u may =
      let parts = and_parts (is_drawn all u.id && not (has_record all u.id)) (is_fit_open u) may.allowed in
      let drawn = and_parts (is_drawn all u.id) (not (has_record all u.id)) parts.0 in
      let times = and_parts (is_moment u.at) (is_called u.cause u.version u.binding && is_formed u.form u.kind) parts.1 in
      let called = and_parts (is_called u.cause u.version u.binding) (is_formed u.form u.kind) times.1 in
      record {
        shallow = shallow u at;
        fit = and_from (nat_le 1 u.id.count) (is_moment (max u.at at) && (is_called u.cause u.version u.binding && true)) (drawn_counted all u.id drawn.0)
            (and_from (is_moment (max u.at at)) (is_called u.cause u.version u.binding && true) (within_both u.at at GREATEST_MOMENT times.0 small)
            (and_from (is_called u.cause u.version u.binding) true called.0 refl));
      }

  open_told : (all : Entries) (i : KeptItem) (u : Unrecorded) → pick_open i ≡ Some u → MayStand all i → LastsAbandoned u
  open_told all (items.Open v) u e may = let same : v ≡ u = cc in subst (λ (x : Unrecorded). LastsAbandoned x) same (open_lasts all v may)
  open_told all (items.Version v) u e may = cc
  open_told all (items.Archive a) u e may = cc
  open_told all (items.Note n) u e may = cc
  open_told all (items.Count n k) u e may = cc
  open_told all (items.Row r) u e may = cc
  open_told all (items.Done r) u e may = cc

  early_split : (all : Entries) (is : List KeptItem) → AllByRecursion (MayStand all) is → IsEarly (Resumed (split is).counts (resumed_records at (split is).unrecorded (split is).records))
  early_split all is each = (
    subst (λ (ids : List Id). AllByRecursion (λ id. 1 ≤ id.count) ids) (sym (counts_picked is))
        (each_picked pick_count (MayStand all) (λ (id : Id). 1 ≤ id.count) (count_told all) is each),
    all_both (λ (r : Record). IsLasting (items.Done r)) (split is).records (abandoned at (split is).unrecorded)
        (subst (λ (ds : List Record). AllByRecursion (λ r. IsLasting (items.Done r)) ds) (sym (dones_picked is))
        (each_picked pick_done (MayStand all) (λ (r : Record). IsLasting (items.Done r)) (done_told all) is each))
        (abandoned_each (λ (r : Record). IsLasting (items.Done r)) at (split is).unrecorded
        (subst (λ (us : List Unrecorded). AllByRecursion (λ u. IsLasting (items.Done (abandoned_record u at))) us) (sym (opens_picked is))
        (each_picked pick_open (MayStand all) (λ (u : Unrecorded). IsLasting (items.Done (abandoned_record u at))) (open_told all) is each))),
  )

  early_taken : (b : Bool) (parts : KeptParts) → IsEarly (Resumed parts.counts (resumed_records at parts.unrecorded parts.records)) → AreEarly (opened_decision at (taken_if b parts)).items
  early_taken true parts early = (early, tt)
  early_taken false parts early = tt

  early_opened : (T : Trace) (rows : Entries) (r : Result (List KeptItem) (List ℕ)) → judged rows ≡ r → AreEarly (opened_decision at (parts_taken at T r)).items
  early_opened T rows (Ok is) e =
      early_taken (is_fresh T && are_resumable (split is).counts (resumed_records at (split is).unrecorded (split is).records)) (split is) (early_split rows is (judged-sound rows is e).each)
  early_opened T rows (Err key) e = tt

-- ---- each decision

early_decided : AbandonedAreShallow → (S : Sight) (event : Event) → S.moment ≤ GREATEST_MOMENT → AreWritable S.rows → AreEarly S.trace → AreEarly (decide S event).items
early_decided shallow S (events.Opened rows) small all early = early_opened shallow S.moment small S.trace rows (judged rows) refl
early_decided shallow S event small all early = early_steps S (decide S event).items small all early (decided_steps S event refl)

-- what happened lasts, where records of abandoned activations nest no deeper than they are read
pub traces_last : TracesLast
traces_last S event small all early = all_both IsEarly (decide S event).items S.trace (early_decided abandoned_shallow S event small all early) early
