-- The items that decisions are made of may come, and take over nothing of an earlier run.
use Rattle.std.proofs.Common.{◌≡◌, ◌++◌, ◌∙◌, ◌+◌, ◌&&◌, ℕ, zero, suc, Bool, true, false, cond, List, [], ◌∷◌, Option, Some, None, Result, Ok, Err, IfOk, length, append_assoc, refl, sym, ap, subst}
use Rattle.std.specs.Prelude.{is_none}
use Rattle.std.specs.List.{AllByRecursion, find, flat_map}
use Rattle.std.proofs.lemmas.Grind.{flat_map-append}
use Rattle.ow_value.specs.Value.{Pairs}
use Rattle.ow_entity.specs.declared.rules.Rule.{Rule}
use Rattle.ow_packages.specs.Access.{Standing}
use Rattle.ow_records.specs.declared.activations.Activation.{Activation}
use Rattle.ow_records.specs.declared.fires.Fire.{Fire}
use Rattle.ow_records.specs.declared.frames.Frame.{Frame}
use Rattle.ow_records.specs.declared.ids.Id.{Id}
use Rattle.ow_records.specs.declared.outcomes.Ending.{Ending}
use Rattle.ow_records.specs.declared.outcomes.Ending.TheVariants.{Abandoned, Overran, Replied}
use Rattle.ow_records.specs.declared.record.Record.{Record}
use Rattle.ow_traits.specs.declared.change_list.Change.{Change as StoreChange}
use Rattle.ow_traits.specs.declared.replies.RunReply.{RunReply}
use Rattle.ow_slots.specs.declared.states.Slot.{Slot}
use Rattle.ow_slots.specs.Slots.{first_with}
use Rattle.ow_slots.specs.State.{recorded_of, runs}
use Rattle.ow_pool.specs.declared.answers.Place.{Place}
use Rattle.ow_pool.specs.declared.answers.Place.TheVariants as places
use Rattle.ow_tables.specs.Rows.{standing}
use Rattle.ow_commits.specs.Commits.{changes_of}
use Rattle.ow_commits.specs.Keeping.{AreOwn, IsOwn}
use Rattle.ow_commits.proofs.Ids.{all_both}
use Rattle.ow_floor.specs.declared.activations.Open.{Open}
use Rattle.ow_floor.specs.declared.activations.Plan.{Plan}
use Rattle.ow_floor.specs.declared.runs.Run.{Run}
use Rattle.ow_floor.specs.Calls.{IsNext, abandon_items, abandoned_items, accept_items, activation_of, answered_items, begins, begun_items, busy_run, draw_items, due_in, end_items, first_items, first_late, goes, gone_items, is_late, items_if, late_items, late_of, loses, lost_items, moved, moved_by, next_items, order_items, overrun_first, place_on, recorded_with, reply_items, reply_recorded, sorted_by_id}
use Rattle.ow_floor.specs.Growth.{AreRight}
use Rattle.ow_floor.specs.Laws.{IsSound}
use Rattle.ow_floor.specs.Trace.{Accepted, Archived, Begun, Drawn, Ended, Fired, Gone, Item, Lost, Swept, Trace, fired, firing, live, open_items, shown}
use Rattle.ow_floor.specs.View.{Shown, is_of, waits}
use Rattle.ow_floor.proofs.Apart.{open_distinct}
use Rattle.ow_floor.proofs.Coming.{right_append, right_reopened, right_reply}
use Rattle.ow_floor.proofs.Drawn.{drawn_last}
use Rattle.ow_floor.proofs.Making.{moved_append as floor_moved_append}
use Rattle.ow_floor.proofs.Soundness.{sound_items}
use Rattle.ow_counts.specs.View.{AreNotedAt, IsNotedAt}
use Rattle.ow_trees.specs.Driven.{AreDriven, IsDriven}
use Rattle.ow_trees.specs.Owed.{AreOwed, IsCalled, IsOwed}
use Rattle.ow_trees.specs.Steps.{item_of, next_in, stepped, steps_after, swept_on, unless_empty}
use Rattle.ow_trees.specs.declared.advances.Advance.{Advance}
use Rattle.ow_trees.specs.declared.advances.Advance.TheVariants.{Call, End}
use Rattle.ow_trees.specs.declared.bounds.TheConstants.{MOST_STEPS}
use Rattle.ow_trees.proofs.Coming.{after_none, driven_steps, right_after, right_swept, step_owed}
use Rattle.ow_trees.proofs.Each.{each_append}
use Rattle.ow_trees.proofs.Stepping.{each_after}
use Rattle.ow_http.specs.declared.reason.Reason.{Reason}
use Rattle.ow_decide.specs.Calling.{callee, given_over, next_id, plan_for, plan_items}
use Rattle.ow_decide.specs.Decision.{item_changes, items_changes}
use Rattle.ow_decide.specs.Decisions.{answered_all, archived_until, sweep_by, sweep_decision, sweep_with, swept_all, swept_told}
use Rattle.ow_decide.specs.Firing.{after_rule, after_rules, rule_items, rule_plan, seeing, shot_items}
use Rattle.ow_decide.specs.Sight.{Sight, within_limits}
use Rattle.ow_decide.specs.declared.call_steps.Callee.{Callee}
use Rattle.ow_decide.specs.declared.events.Told.TheVariants as told
use Rattle.ow_decide.proofs.Results.{then_ok}

-- ---- changes of moves

item_moved : (item : Item) → item_changes item ≡ flat_map changes_of (moved_by item)
item_moved (Accepted a) = refl
item_moved (Ended e) = refl
item_moved (Drawn id at) = refl
item_moved (Fired r) = refl
item_moved item = refl

-- the moves of two lists of items
pub moved_append : (xs ys : Trace) → moved (xs ++ ys) ≡ moved ys ++ moved xs
moved_append xs ys = floor_moved_append xs ys

-- what items change of what is kept is what their moves do
pub changes_of_moves : (items : Trace) → items_changes items ≡ flat_map changes_of (moved items)
changes_of_moves [] = refl
changes_of_moves (item ∷ items) =
    ap (λ (cs : List StoreChange). cs ++ item_changes item) (changes_of_moves items)
    ∙ (ap (λ (cs : List StoreChange). flat_map changes_of (moved items) ++ cs) (item_moved item) ∙ sym (flat_map-append changes_of (moved items) (moved_by item)))

-- ---- acceptances and ends

-- it is an acceptance or an end
abbrev pub IsPlain : Item → Type 0
IsPlain (Accepted a) = Unit {0}
IsPlain (Ended e) = Unit {0}
IsPlain item = ⊥

abbrev pub ArePlain : Trace → Type 0
ArePlain items = AllByRecursion IsPlain items

plain_by : (at : ℕ) (a : Activation) (f : Frame) (advance : Advance) → IsPlain (item_of at a f advance)
plain_by at a f (Call plan) = tt
plain_by at a f (End r) = tt

pub driven_plain : (rs : Standing) (at : ℕ) (item : Item) (T : Trace) → IsDriven rs at item T → IsPlain item
driven_plain rs at item T driven = subst (λ (x : Item). IsPlain x) (sym driven.is) (plain_by at driven.composite.task driven.frame driven.advance)

are_plain : (rs : Standing) (at : ℕ) (items T : Trace) → AreDriven rs at items T → ArePlain items
are_plain rs at [] T driven = tt
are_plain rs at (item ∷ items) T driven = (driven_plain rs at item (items ++ T) driven.0, are_plain rs at items T driven.1)

noted_by : (at : ℕ) (a : Activation) (f : Frame) (advance : Advance) → IsNotedAt at (item_of at a f advance)
noted_by at a f (Call plan) = refl
noted_by at a f (End r) = tt

are_noted : (rs : Standing) (at : ℕ) (items T : Trace) → AreDriven rs at items T → AreNotedAt at items
are_noted rs at [] T driven = tt
are_noted rs at (item ∷ items) T driven = (
  subst (λ (x : Item). IsNotedAt at x) (sym driven.0.is) (noted_by at driven.0.composite.task driven.0.frame driven.0.advance),
  are_noted rs at items T driven.1,
)

own_one : (item : Item) → IsPlain item → IsOwn item
own_one (Accepted a) plain = tt
own_one (Ended e) plain = tt
own_one item plain = absurd plain

plain_own : (items : Trace) → ArePlain items → AreOwn items
plain_own [] plain = tt
plain_own (item ∷ items) plain = (own_one item plain.0, plain_own items plain.1)

live_one : (item : Item) (T : Trace) → IsPlain item → live (item ∷ T) ≡ live T
live_one (Accepted a) T plain = refl
live_one (Ended e) T plain = refl
live_one item T plain = absurd plain

-- they leave the runs, and what was fired
pub plain_live : (items T : Trace) → ArePlain items → live (items ++ T) ≡ live T
plain_live [] T plain = refl
plain_live (item ∷ items) T plain = live_one item (items ++ T) plain.0 ∙ plain_live items T plain.1

firing_one : (item : Item) (T : Trace) → IsPlain item → firing (item ∷ T) ≡ firing T
firing_one (Accepted a) T plain = refl
firing_one (Ended e) T plain = refl
firing_one item T plain = absurd plain

plain_firing : (items T : Trace) → ArePlain items → firing (items ++ T) ≡ firing T
plain_firing [] T plain = refl
plain_firing (item ∷ items) T plain = firing_one item (items ++ T) plain.0 ∙ plain_firing items T plain.1

fired_one : (item : Item) (T : Trace) → IsPlain item → fired (item ∷ T) ≡ fired T
fired_one (Accepted a) T plain = refl
fired_one (Ended e) T plain = refl
fired_one item T plain = absurd plain

plain_fired : (items T : Trace) → ArePlain items → fired (items ++ T) ≡ fired T
plain_fired [] T plain = refl
plain_fired (item ∷ items) T plain = fired_one item (items ++ T) plain.0 ∙ plain_fired items T plain.1

-- ---- steps

-- of the steps alone that follow some items
pub following_plain : (rs : Standing) (at : ℕ) (T items : Trace) → ArePlain (stepped MOST_STEPS rs at (items ++ T) (next_in items))
following_plain rs at T items = are_plain rs at (stepped MOST_STEPS rs at (items ++ T) (next_in items)) (items ++ T) (driven_steps MOST_STEPS rs at (items ++ T) (next_in items))

pub steps_plain : (rs : Standing) (at : ℕ) (T items : Trace) → ArePlain items → ArePlain (steps_after rs at T items)
steps_plain rs at T items plain = all_both IsPlain (stepped MOST_STEPS rs at (items ++ T) (next_in items)) items (following_plain rs at T items) plain

steps_own : (rs : Standing) (at : ℕ) (T items : Trace) → AreOwn items → AreOwn (steps_after rs at T items)
steps_own rs at T items own =
    all_both IsOwn (stepped MOST_STEPS rs at (items ++ T) (next_in items)) items (plain_own (stepped MOST_STEPS rs at (items ++ T) (next_in items)) (following_plain rs at T items)) own

-- ---- sweeps

-- what is true of nothing, of two lists of items one after the other, and of the first late end with its steps, is true of a sweep
module _ (rs : Standing) (at : ℕ) (P : Trace → Trace → Type 0) (none : (T : Trace) → P [] T) (more : (xs ys T : Trace) → P xs (ys ++ T) → P ys T → P (xs ++ ys) T)
    (one : (T : Trace) → P (steps_after rs at T (overrun_first at T)) T) where
  swept_by : (n : ℕ) (T items : Trace) → overrun_first at T ≡ items → ((U : Trace) → P (swept_on n rs at U) U)
      → P (unless_empty items (λ (xs : Trace). swept_on n rs at (steps_after rs at T xs ++ T) ++ steps_after rs at T xs)) T
  swept_by n T [] is rest = none T
  swept_by n T (item ∷ items) is rest =
      let first : Trace = steps_after rs at T (item ∷ items) in
      more (swept_on n rs at (first ++ T)) first T (rest (first ++ T)) (subst (λ (xs : Trace). P (steps_after rs at T xs) T) is (one T))

  pub through_sweep : (n : ℕ) (T : Trace) → P (swept_on n rs at T) T
  through_sweep zero T = none T
  through_sweep (suc n) T = swept_by n T (overrun_first at T) refl (λ U. through_sweep n U)

end_plain : (at : ℕ) (ending : Ending) (run : Option Run) (o : Option Open) → ArePlain (end_items at ending run o)
end_plain at ending run None = tt
end_plain at ending run (Some o) = (tt, tt)

by_plain : (at : ℕ) (r : Run) (o : Open) (b : Bool) → ArePlain (cond b (end_items at Overran (Some r) (Some o)) [])
by_plain at r o true = (tt, tt)
by_plain at r o false = tt

late_plain : (at : ℕ) (r : Run) (s : Option Slot) (o : Option Open) → ArePlain (late_items at r s o)
late_plain at r None o = tt
late_plain at r (Some s) None = tt
late_plain at r (Some s) (Some o) = by_plain at r o (is_none (recorded_of s.state) && is_late at r o.task)

first_plain : (items rest : Trace) → ArePlain items → ArePlain rest → ArePlain (first_items items rest)
first_plain [] rest items_are rest_is = rest_is
first_plain (item ∷ items) rest items_are rest_is = items_are

first_late_plain : (at : ℕ) (rs : List Run) (v : Shown) → ArePlain (first_late at rs v)
first_late_plain at [] v = tt
first_late_plain at (r ∷ rs) v =
    first_plain (late_of at r v) (first_late at rs v) (late_plain at r (first_with (runs r.number) v.slots) (find (is_of r.id) v.open_items)) (first_late_plain at rs v)

-- the first late end, with its steps
pub late_steps_plain : (rs : Standing) (at : ℕ) (T : Trace) → ArePlain (steps_after rs at T (overrun_first at T))
late_steps_plain rs at T = steps_plain rs at T (overrun_first at T) (first_late_plain at (live T) (shown T))

-- ---- plans

next_right : (at : ℕ) (plan : Plan) (T : Trace) → IsNext plan.id T → AreRight (accept_items at plan) (shown T)
next_right at plan T next = ((next ∙ ap (λ (n : ℕ). n + 1) (sym (drawn_last T plan.id.namespace)), tt), tt)

-- the items of a plan may come
pub plan_right : (S : Sight) (plan : Plan) → IsNext plan.id S.trace → IsSound S.trace → AreRight (plan_items S plan) (shown S.trace)
plan_right S plan next sound = right_after (standing S.rows) S.moment (accept_items S.moment plan) S.trace sound (next_right S.moment plan S.trace next)

pub plan_plain : (S : Sight) (plan : Plan) → ArePlain (plan_items S plan)
plan_plain S plan = steps_plain (standing S.rows) S.moment S.trace (accept_items S.moment plan) (tt, tt)

-- they are accepted at the moment
pub plan_noted : (S : Sight) (plan : Plan) → AreNotedAt S.moment (plan_items S plan)
plan_noted S plan = all_both (IsNotedAt S.moment) (stepped MOST_STEPS (standing S.rows) S.moment (accept_items S.moment plan ++ S.trace) (next_in (accept_items S.moment plan))) (accept_items S.moment plan)
    (are_noted (standing S.rows) S.moment (stepped MOST_STEPS (standing S.rows) S.moment (accept_items S.moment plan ++ S.trace) (next_in (accept_items S.moment plan))) (accept_items S.moment plan ++ S.trace)
    (driven_steps MOST_STEPS (standing S.rows) S.moment (accept_items S.moment plan ++ S.trace) (next_in (accept_items S.moment plan)))) (refl, tt)

pub plan_own : (S : Sight) (plan : Plan) → AreOwn (plan_items S plan)
plan_own S plan = plain_own (plan_items S plan) (plan_plain S plan)

-- ---- replies, sweeps and openings

-- those of a runner's reply
pub answered_right : (S : Sight) (run : ℕ) (reply : RunReply) → IsSound S.trace → AreRight (answered_all S run reply) (shown S.trace)
answered_right S run reply sound =
    right_after (standing S.rows) S.moment (answered_items S.moment run reply S.trace) S.trace sound (right_reply S.moment run reply S.trace sound)

nothing_by : (S : Sight) (run : ℕ) (reply : RunReply) (r : Option Run) → recorded_with run (shown S.trace) r ≡ None
    → steps_after (standing S.rows) S.moment S.trace (reply_items S.moment run reply (shown S.trace) r) ≡ []
nothing_by S run reply None none = after_none (standing S.rows) S.moment [] S.trace refl
nothing_by S run reply (Some r) none = cc

-- a reply to no live run makes none
pub nothing_answered : (S : Sight) (run : ℕ) (reply : RunReply) → reply_recorded run S.trace ≡ None → answered_all S run reply ≡ []
nothing_answered S run reply none = nothing_by S run reply (busy_run run (shown S.trace)) none

end_own : (at : ℕ) (ending : Ending) (run : Option Run) (o : Option Open) → AreOwn (end_items at ending run o)
end_own at ending run None = tt
end_own at ending run (Some o) = (tt, tt)

reply_own : (at run : ℕ) (reply : RunReply) (v : Shown) (r : Option Run) → AreOwn (reply_items at run reply v r)
reply_own at run reply v None = tt
reply_own at run reply v (Some r) = (tt, end_own at (Replied reply) (Some r) (find (is_of r.id) v.open_items))

pub answered_own : (S : Sight) (run : ℕ) (reply : RunReply) → AreOwn (answered_all S run reply)
answered_own S run reply =
    steps_own (standing S.rows) S.moment S.trace (answered_items S.moment run reply S.trace) (reply_own S.moment run reply (shown S.trace) (busy_run run (shown S.trace)))

-- those of a sweep
pub swept_right : (S : Sight) → IsSound S.trace → AreRight (swept_all S) (shown S.trace)
swept_right S sound = ((tt, tt), right_swept (length (open_items S.trace)) (standing S.rows) S.moment S.trace sound)

pub swept_own : (S : Sight) → AreOwn (swept_all S)
swept_own S = (
  tt,
  through_sweep (standing S.rows) S.moment (λ (items T : Trace). AreOwn items) (λ T. tt) (λ xs ys T first second. all_both IsOwn xs ys first second)
      (λ T. plain_own (steps_after (standing S.rows) S.moment T (overrun_first S.moment T)) (late_steps_plain (standing S.rows) S.moment T)) (length (open_items S.trace)) S.trace,
)

-- each is an acceptance, an end, or says that it was swept
abbrev pub IsOfSweep : Item → Type 0
IsOfSweep (Accepted a) = Unit {0}
IsOfSweep (Ended e) = Unit {0}
IsOfSweep (Swept at) = Unit {0}
IsOfSweep item = ⊥

abbrev pub AreOfSweep : Trace → Type 0
AreOfSweep items = AllByRecursion IsOfSweep items

of_plain : (item : Item) → IsPlain item → IsOfSweep item
of_plain (Accepted a) plain = tt
of_plain (Ended e) plain = tt
of_plain item plain = absurd plain

all_of_plain : (items : Trace) → ArePlain items → AreOfSweep items
all_of_plain [] plain = tt
all_of_plain (item ∷ items) plain = (of_plain item plain.0, all_of_plain items plain.1)

pub swept_so : (S : Sight) → AreOfSweep (swept_all S)
swept_so S = (
  tt,
  through_sweep (standing S.rows) S.moment (λ (items T : Trace). AreOfSweep items) (λ T. tt) (λ xs ys T first second. all_both IsOfSweep xs ys first second)
      (λ T. all_of_plain (steps_after (standing S.rows) S.moment T (overrun_first S.moment T)) (late_steps_plain (standing S.rows) S.moment T)) (length (open_items S.trace)) S.trace,
)

-- what is true of these, and of these with an archive after them, is true of what a sweep adds
pub sweep_adds : (S : Sight) (P : Trace → Type 0) → P (swept_all S) → ((until : ℕ) → P (Archived until S.moment ∷ swept_all S)) → P (sweep_decision S).items
sweep_adds S P alone archived = by_until (archived_until S.tenants.retain S.moment)
  where
    by_due : (until : ℕ) (due : List Record) → P (sweep_with S (told.Swept (swept_told (swept_all S))) (swept_all S) until due).items
    by_due until [] = alone
    by_due until (r ∷ rs) = archived until

    by_until : (o : Option ℕ) → P (sweep_by S (told.Swept (swept_told (swept_all S))) (swept_all S) o).items
    by_until None = alone
    by_until (Some until) = by_due until (due_in until (swept_all S ++ S.trace))

-- those of a reopening
pub abandoned_right : (S : Sight) → IsSound S.trace → AreRight (abandon_items S.moment S.trace) (shown S.trace)
abandoned_right S sound = right_reopened S.moment (shown S.trace) sound.slotted.within (open_distinct S.trace sound)

all_abandoned_own : (at : ℕ) (os : List Open) → AreOwn (abandoned_items at os)
all_abandoned_own at [] = tt
all_abandoned_own at (o ∷ os) = all_both IsOwn (abandoned_items at os) (end_items at Abandoned None (Some o)) (all_abandoned_own at os) (tt, tt)

pub abandoned_own : (S : Sight) → AreOwn (abandon_items S.moment S.trace)
abandoned_own S = (tt, all_abandoned_own S.moment (sorted_by_id (open_items S.trace)))

-- ---- fires

-- what is true before a rule, and of what each rule makes, is true after all rules
module _ (S : Sight) (f : Fire) (P : Trace → Type 0)
    (step : (r : Rule) (plan : Plan) (items : Trace) → rule_plan (seeing items S) f r ≡ Ok plan → P items → P (plan_items (seeing items S) plan ++ items)) where
  after_one : (r : Rule) (items : Trace) (p : Result Plan Reason) → rule_plan (seeing items S) f r ≡ p → P items → P (rule_items (seeing items S) p ++ items)
  after_one r items (Ok plan) is before = step r plan items is before
  after_one r items (Err reason) is before = before

  pub after_all : (rs : List Rule) (items : Trace) → P items → P (after_rules S f rs items)
  after_all [] items before = before
  after_all (r ∷ rs) items before = after_all rs (after_rule S f r items) (after_one r items (rule_plan (seeing items S) f r) refl before)

-- no rule changes which id was drawn for a fire, and what was fired before
rules_firing : (S : Sight) (f : Fire) (rs : List Rule) (items : Trace) → firing (after_rules S f rs items ++ S.trace) ≡ firing (items ++ S.trace)
rules_firing S f rs items = after_all S f (λ (xs : Trace). firing (xs ++ S.trace) ≡ firing (items ++ S.trace))
    (λ r plan xs is before.
    ap firing (append_assoc (plan_items (seeing xs S) plan) xs S.trace) ∙ (plain_firing (plan_items (seeing xs S) plan) (xs ++ S.trace) (plan_plain (seeing xs S) plan) ∙ before)) rs items refl

pub rules_fired : (S : Sight) (f : Fire) (rs : List Rule) (items : Trace) → fired (after_rules S f rs items ++ S.trace) ≡ fired (items ++ S.trace)
rules_fired S f rs items = after_all S f (λ (xs : Trace). fired (xs ++ S.trace) ≡ fired (items ++ S.trace))
    (λ r plan xs is before.
    ap fired (append_assoc (plan_items (seeing xs S) plan) xs S.trace) ∙ (plain_fired (plan_items (seeing xs S) plan) (xs ++ S.trace) (plan_plain (seeing xs S) plan) ∙ before)) rs items refl

-- the record has the id that was drawn
pub shot_drawn : (S : Sight) (f : Fire) (rs : List Rule) → firing (after_rules S f rs (draw_items S.moment f.id) ++ S.trace) ≡ Some f.id
shot_drawn S f rs = rules_firing S f rs (draw_items S.moment f.id)

-- what is true of each plan for a rule
pub rule_so : (S : Sight) (f : Fire) (r : Rule) (N : Plan → Type 0) → ((c : Callee) (merged : Pairs) → N (plan_for f.subject None (next_id S c.number) f.namespace c.effective merged)) → IfOk (rule_plan S f r) N
rule_so S f r N each =
    then_ok N (callee S r.action f.namespace) _ (λ c. then_ok N (given_over c.effective f.params false) _ (λ merged. then_ok N (within_limits S f.namespace) _ (λ within. each c merged)))

-- one list of items after another
pub right_more : (xs ys T : Trace) → IsSound T → AreRight xs (shown (ys ++ T)) → AreRight ys (shown T) → AreRight (xs ++ ys) (shown T)
right_more xs ys T sound first second = right_append xs ys (shown T) (subst (λ (v : Shown). AreRight xs v) (sound_items ys T second sound).1 first) second

rule_right : (S : Sight) (f : Fire) → IsSound S.trace → (r : Rule) (plan : Plan) (items : Trace) → rule_plan (seeing items S) f r ≡ Ok plan → AreRight items (shown S.trace)
    → AreRight (plan_items (seeing items S) plan ++ items) (shown S.trace)
rule_right S f sound r plan items is before =
    let next : IsNext plan.id (items ++ S.trace)
    = subst (λ (p : Result Plan Reason). IfOk p (λ (x : Plan). IsNext x.id (items ++ S.trace))) is (rule_so (seeing items S) f r (λ (x : Plan). IsNext x.id (items ++ S.trace)) (λ c merged. refl)) in
    right_more (plan_items (seeing items S) plan) items S.trace sound (plan_right (seeing items S) plan next (sound_items items S.trace before sound).0) before

-- up to the record they may come
pub rules_right : (S : Sight) (f : Fire) (rs : List Rule) → IsNext f.id S.trace → IsSound S.trace → AreRight (after_rules S f rs (draw_items S.moment f.id)) (shown S.trace)
rules_right S f rs next sound = after_all S f (λ (xs : Trace). AreRight xs (shown S.trace)) (rule_right S f sound) rs (draw_items S.moment f.id)
    ((next ∙ ap (λ (n : ℕ). n + 1) (sym (drawn_last S.trace f.id.namespace)), tt), tt)

-- the items of a fire may come
pub shot_right : (S : Sight) (f : Fire) (rs : List Rule) → IsNext f.id S.trace → IsSound S.trace → AreRight (shot_items S f rs) (shown S.trace)
shot_right S f rs next sound =
    let items : Trace = after_rules S f rs (draw_items S.moment f.id) in
    let rest = rules_right S f rs next sound in
    ((subst (λ (v : Shown). v.firing ≡ Some f.id) (sound_items items S.trace rest sound).1 (shot_drawn S f rs), tt), rest)

pub shot_own : (S : Sight) (f : Fire) (rs : List Rule) → AreOwn (shot_items S f rs)
shot_own S f rs = (
  tt,
  after_all S f AreOwn (λ r plan xs is before. all_both IsOwn (plan_items (seeing xs S) plan) xs (plan_own (seeing xs S) plan) before) rs (draw_items S.moment f.id) (tt, tt),
)

-- ---- what is owed

-- each step of a plan that no activation causes is owed
pub plan_owed : (S : Sight) (plan : Plan) → plan.cause ≡ None → AreOwed (standing S.rows) S.moment (plan_items S plan) S.trace
plan_owed S plan uncaused = each_after (IsOwed (standing S.rows) S.moment) (standing S.rows) S.moment (accept_items S.moment plan) S.trace (step_owed (standing S.rows) S.moment)
    (subst (λ (cause : Option Id). IsCalled (standing S.rows) S.moment (activation_of S.moment plan) cause S.trace) (sym uncaused) tt, tt)

-- and so is each of a fire
pub shot_owed : (S : Sight) (f : Fire) (rs : List Rule) → AreOwed (standing S.rows) S.moment (shot_items S f rs) S.trace
shot_owed S f rs = (
  tt,
  after_all S f (λ (xs : Trace). AreOwed (standing S.rows) S.moment xs S.trace) (λ r plan xs is before.
      let uncaused : plan.cause ≡ None
      = subst (λ (p : Result Plan Reason). IfOk p (λ (x : Plan). x.cause ≡ None)) is (rule_so (seeing xs S) f r (λ (x : Plan). x.cause ≡ None) (λ c merged. refl)) in
      each_append (IsOwed (standing S.rows) S.moment) (plan_items (seeing xs S) plan) xs S.trace (plan_owed (seeing xs S) plan uncaused) before) rs (draw_items S.moment f.id) (tt, tt),
)

-- ---- items of which nothing is kept

order_own : (p : Place) (o : Option Open) (at : ℕ) (v : Shown) → AreOwn (order_items p o at v)
order_own (places.Run slot start) None at v = tt
order_own (places.Run slot start) (Some o) at v = (tt, tt)
order_own (places.Prewarm slot kind memory) o at v = (tt, tt)
order_own (places.Remove slots) o at v = (tt, tt)
order_own (places.Nothing reason) o at v = tt

order_quiet : (p : Place) (o : Option Open) (at : ℕ) (v : Shown) → moved (order_items p o at v) ≡ []
order_quiet (places.Run slot start) None at v = refl
order_quiet (places.Run slot start) (Some o) at v = refl
order_quiet (places.Prewarm slot kind memory) o at v = refl
order_quiet (places.Remove slots) o at v = refl
order_quiet (places.Nothing reason) o at v = refl

if_own : (b : Bool) (item : Item) → IsOwn item → AreOwn (items_if b item)
if_own true item own = (own, tt)
if_own false item own = tt

if_quiet : (b : Bool) (item : Item) → moved_by item ≡ [] → moved (items_if b item) ≡ []
if_quiet true item quiet = quiet
if_quiet false item quiet = refl

-- nothing moves at an order, a beginning, a loss and a going
pub next_quiet : (S : Sight) → AreOwn (next_items S.moment S.trace) × (moved (next_items S.moment S.trace) ≡ [])
next_quiet S =
    let v = shown S.trace in
    (order_own (place_on v) (find waits v.open_items) S.moment v, order_quiet (place_on v) (find waits v.open_items) S.moment v)

pub begun_quiet : (S : Sight) (run : ℕ) → AreOwn (begun_items S.moment run S.trace) × (moved (begun_items S.moment run S.trace) ≡ [])
begun_quiet S run = (if_own (begins run S.trace) (Begun run S.moment) tt, if_quiet (begins run S.trace) (Begun run S.moment) refl)

pub lost_quiet : (S : Sight) (run : ℕ) → AreOwn (lost_items S.moment run S.trace) × (moved (lost_items S.moment run S.trace) ≡ [])
lost_quiet S run = (if_own (loses run S.trace) (Lost run S.moment) tt, if_quiet (loses run S.trace) (Lost run S.moment) refl)

pub gone_quiet : (S : Sight) (slot generation : ℕ) → AreOwn (gone_items S.moment slot generation S.trace) × (moved (gone_items S.moment slot generation S.trace) ≡ [])
gone_quiet S slot generation = (if_own (goes slot generation S.trace) (Gone slot generation S.moment) tt, if_quiet (goes slot generation S.trace) (Gone slot generation S.moment) refl)
