-- The laws of steps and sweeps: they may come, each is owed, and each is a step of an open composite.
use Rattle.std.proofs.Common.{◌≡◌, ◌⊎◌, ◌+◌, ◌++◌, ◌&&◌, ℕ, zero, suc, Bool, true, false, cond, List, [], ◌∷◌, Option, Some, None, inl, inr, length, refl, sym, ap, ◌∙◌, append_assoc, arith, subst}
use Rattle.std.specs.Prelude.{is_none}
use Rattle.std.specs.List.{find, AllByRecursion}
use Rattle.ow_packages.specs.Access.{Standing}
use Rattle.ow_records.specs.declared.activations.Activation.{Activation}
use Rattle.ow_records.specs.declared.frames.Frame.{Frame}
use Rattle.ow_records.specs.declared.frames.Used.{Used}
use Rattle.ow_records.specs.declared.ids.Id.{Id}
use Rattle.ow_records.specs.Response.{ResponseView}
use Rattle.ow_records.specs.declared.outcomes.Ending.TheVariants.{Composed, Overran, Replied}
use Rattle.ow_slots.specs.declared.states.Slot.{Slot}
use Rattle.ow_slots.specs.Slots.{first_with}
use Rattle.ow_slots.specs.State.{recorded_of, runs}
use Rattle.ow_traits.specs.declared.replies.RunReply.{RunReply}
use Rattle.ow_floor.specs.Calls.{activation_of, busy_run, end_items, ended_by, first_items, first_late, is_late, late_items, late_of, overrun_first, reply_items}
use Rattle.ow_floor.specs.Frames.{is_frame}
use Rattle.ow_floor.specs.Growth.{AreRight}
use Rattle.ow_floor.specs.Laws.{IsSound}
use Rattle.ow_floor.specs.Owed.{rise, rises}
use Rattle.ow_floor.specs.Trace.{Accepted, Ended, Item, Trace, drawn, firing, firing_after, frames, live, moment_of, open_item, open_items, shown}
use Rattle.ow_floor.specs.View.{Shown, is_of, last_of}
use Rattle.ow_floor.specs.declared.activations.Open.{Open}
use Rattle.ow_floor.specs.declared.activations.Plan.{Plan}
use Rattle.ow_floor.specs.declared.runs.Run.{Run}
use Rattle.ow_floor.proofs.Coming.{right_append, right_overran}
use Rattle.ow_floor.proofs.Soundness.{sound_items}
use Rattle.ow_trees.specs.Advance.{next_id, used_by}
use Rattle.ow_trees.specs.Driven.{AreDriven, IsAdvance, IsDriven}
use Rattle.ow_trees.specs.Each.{AreEach}
use Rattle.ow_trees.specs.Laws.{AreSweptItems, IsStepItem, IsSweptItem, StepsAreDriven, StepsAreOwed, StepsArePlain, StepsAreRight}
use Rattle.ow_trees.specs.Owed.{AreOwed, IsCalled, IsOwed}
use Rattle.ow_trees.specs.Steps.{item_of, items_by, late_by, late_in, next_in, next_of, step, stepped, steps_after, sweep_items, swept_on, unless_empty}
use Rattle.ow_trees.specs.declared.advances.Advance.{Advance}
use Rattle.ow_trees.specs.declared.advances.Advance.TheVariants.{Call, End}
use Rattle.ow_trees.specs.declared.bounds.TheConstants.{MOST_STEPS}
use Rattle.ow_trees.proofs.Answering.{step_answers}
use Rattle.ow_trees.proofs.Each.{each_all}
use Rattle.ow_trees.proofs.Stepping.{each_after, each_stepped, each_swept, step_is}

-- ---- a step may come

abbrev pub HasNext : Plan → List Id → Type 0
HasNext plan drawn = plan.id.count ≡ last_of drawn plan.id.namespace + 1

pub next_planned : (rs : Standing) (drawn : List Id) (a : Activation) (used : Used) (f : Frame) (plan : Plan) → IsAdvance rs (next_id drawn a.id.namespace) a used f (Call plan) → HasNext plan drawn
next_planned rs drawn a used f plan (inl component) = subst (λ (p : Plan). HasNext p drawn) (sym component.is) refl
next_planned rs drawn a used f plan (inr run) = subst (λ (p : Plan). HasNext p drawn) (sym run.is) refl

right_advance : (rs : Standing) (at : ℕ) (T : Trace) (o : Open) (used : Used) (f : Frame) (adv : Advance) → open_item T o.task.id ≡ Some o
    → IsAdvance rs (next_id (shown T).drawn o.task.id.namespace) o.task used f adv → AreRight (item_of at o.task f adv ∷ []) (shown T)
right_advance rs at T o used f (Call plan) here does = ((next_planned rs (shown T).drawn o.task used f plan does, tt), tt)
right_advance rs at T o used f (End r) here does = (((o, here, refl, tt), tt), tt)

pub right_driven : (rs : Standing) (at : ℕ) (item : Item) (T : Trace) → IsDriven rs at item T → AreRight (item ∷ []) (shown T)
right_driven rs at item T d =
    subst (λ (x : Item). AreRight (x ∷ []) (shown T)) (sym d.is) (right_advance rs at T d.composite (used_by (find (is_frame d.composite.task.top) (frames T))) d.frame d.advance d.is_open d.does)

right_by : (n : ℕ) (rs : Standing) (at : ℕ) (T : Trace) (id : Id) (o : Option Item) → ((U : Trace) (next : Option Id) → IsSound U → AreRight (stepped n rs at U next) (shown U)) → step rs at T id ≡ o → IsSound T
    → AreRight (items_by o (λ item. stepped n rs at (item ∷ T) (next_of item) ++ item ∷ [])) (shown T)
right_by n rs at T id None more e sound = tt
right_by n rs at T id (Some item) more e sound =
    let one = right_driven rs at item T (step_is rs at id T item e).driven in
    let both = sound_items (item ∷ []) T one sound in
    right_append (stepped n rs at (item ∷ T) (next_of item)) (item ∷ []) (shown T)
    (subst (λ (v : Shown). AreRight (stepped n rs at (item ∷ T) (next_of item)) v) both.1 (more (item ∷ T) (next_of item) both.0)) one

pub right_stepped : (n : ℕ) (rs : Standing) (at : ℕ) (T : Trace) (next : Option Id) → IsSound T → AreRight (stepped n rs at T next) (shown T)
right_stepped zero rs at T next sound = tt
right_stepped (suc n) rs at T None sound = tt
right_stepped (suc n) rs at T (Some id) sound = right_by n rs at T id (step rs at T id) (λ U next. right_stepped n rs at U next) refl sound

pub right_after : (rs : Standing) (at : ℕ) (items T : Trace) → IsSound T → AreRight items (shown T) → AreRight (steps_after rs at T items) (shown T)
right_after rs at items T sound right =
    let both = sound_items items T right sound in
    right_append (stepped MOST_STEPS rs at (items ++ T) (next_in items)) items (shown T)
    (subst (λ (v : Shown). AreRight (stepped MOST_STEPS rs at (items ++ T) (next_in items)) v) both.1 (right_stepped MOST_STEPS rs at (items ++ T) (next_in items) both.0)) right

right_late : (n : ℕ) (rs : Standing) (at : ℕ) (T items : Trace) → ((U : Trace) → IsSound U → AreRight (swept_on n rs at U) (shown U)) → IsSound T → AreRight items (shown T)
    → AreRight (unless_empty items (λ late. swept_on n rs at (steps_after rs at T late ++ T) ++ steps_after rs at T late)) (shown T)
right_late n rs at T [] more sound right = tt
right_late n rs at T (item ∷ items) more sound right =
    let late = steps_after rs at T (item ∷ items) in
    let made = right_after rs at (item ∷ items) T sound right in
    let both = sound_items late T made sound in
    right_append (swept_on n rs at (late ++ T)) late (shown T) (subst (λ (v : Shown). AreRight (swept_on n rs at (late ++ T)) v) both.1 (more (late ++ T) both.0)) made

pub right_swept : (n : ℕ) (rs : Standing) (at : ℕ) (T : Trace) → IsSound T → AreRight (swept_on n rs at T) (shown T)
right_swept zero rs at T sound = tt
right_swept (suc n) rs at T sound =
    right_late n rs at T (overrun_first at T) (λ U s. right_swept n rs at U s) sound (right_overran at (shown T) sound.slotted.within sound.single)

pub steps_right : StepsAreRight
steps_right = record {
  steps = λ n rs at T next sound. right_stepped n rs at T next sound;
  after = λ rs at items T sound right. right_after rs at items T sound right;
  sweep = λ rs at T sound. ((tt, tt), right_swept (length (open_items T)) rs at T sound);
}

-- ---- what the first late run ends

-- nothing, or the end of something by a sweep
abbrev pub IsLateEnd : ℕ → Trace → Type 0
IsLateEnd at items = (items ≡ []) ⊎ ((r : Run) × (a : Activation) × (items ≡ Ended (ended_by at Overran (Some r) a) ∷ []))

late_cond : (at : ℕ) (r : Run) (o : Open) (b : Bool) → IsLateEnd at (cond b (end_items at Overran (Some r) (Some o)) [])
late_cond at r o true = inr (r, o.task, refl)
late_cond at r o false = inl refl

late_one : (at : ℕ) (r : Run) (s : Option Slot) (o : Option Open) → IsLateEnd at (late_items at r s o)
late_one at r None o = inl refl
late_one at r (Some s) None = inl refl
late_one at r (Some s) (Some o) = late_cond at r o (is_none (recorded_of s.state) && is_late at r o.task)

late_first : (at : ℕ) (items rest : Trace) → IsLateEnd at items → IsLateEnd at rest → IsLateEnd at (first_items items rest)
late_first at [] rest a b = b
late_first at (item ∷ items) rest a b = a

late_runs : (at : ℕ) (rs : List Run) (v : Shown) → IsLateEnd at (first_late at rs v)
late_runs at [] v = inl refl
late_runs at (r ∷ rs) v = late_first at (late_of at r v) (first_late at rs v) (late_one at r (first_with (runs r.number) v.slots) (find (is_of r.id) v.open_items)) (late_runs at rs v)

pub late_end : (at : ℕ) (T : Trace) → IsLateEnd at (overrun_first at T)
late_end at T = late_runs at (live T) (shown T)

-- what holds of the end of what a run carries by a sweep, holds of what the first late run ends
late_each : (P : Item → Trace → Type 0) (at : ℕ) (items T : Trace) → ((r : Run) (a : Activation) → P (Ended (ended_by at Overran (Some r) a)) T) → IsLateEnd at items → AreEach P items T
late_each P at items T each (inl none) = subst (λ (xs : Trace). AreEach P xs T) (sym none) tt
late_each P at items T each (inr some) = subst (λ (xs : Trace). AreEach P xs T) (sym some.2) (each some.0 some.1, tt)

pub each_overrun : (P : Item → Trace → Type 0) (at : ℕ) (T : Trace) → ((r : Run) (a : Activation) → P (Ended (ended_by at Overran (Some r) a)) T) → AreEach P (overrun_first at T) T
each_overrun P at T each = late_each P at (overrun_first at T) T each (late_end at T)

-- ---- each is a step of an open composite

pub driven_steps : (n : ℕ) (rs : Standing) (at : ℕ) (T : Trace) (next : Option Id) → AreDriven rs at (stepped n rs at T next) T
driven_steps n rs at T next = each_stepped (IsDriven rs at) n rs at T next (λ id U item e. (step_is rs at id U item e).driven)

first_swept : (rs : Standing) (at : ℕ) (items T : Trace) → overrun_first at T ≡ items → IsLateEnd at items → AreSweptItems rs at items T
first_swept rs at items T is (inl none) = subst (λ (xs : Trace). AreSweptItems rs at xs T) (sym none) tt
first_swept rs at items T is (inr some) = subst (λ (xs : Trace). AreSweptItems rs at xs T) (sym some.2) (inr (inl (is ∙ some.2)), tt)

pub steps_driven : StepsAreDriven
steps_driven = record {
  steps = λ n rs at T next. driven_steps n rs at T next;
  sweep = λ rs at T. (
    inr (inr refl),
    each_swept (IsSweptItem rs at) (length (open_items T)) rs at T (λ id U item e. inl (step_is rs at id U item e).driven) (λ U. first_swept rs at (overrun_first at U) U refl (late_end at U)),
  );
  answers = λ a used f r step. step_answers a used f r step;
}

-- ---- each is owed

advance_owed : (rs : Standing) (at : ℕ) (T : Trace) (o : Open) (used : Used) (f : Frame) (adv : Advance) → IsAdvance rs (next_id (shown T).drawn o.task.id.namespace) o.task used f adv
    → step rs at T o.task.id ≡ Some (item_of at o.task f adv) → IsOwed rs at (item_of at o.task f adv) T
advance_owed rs at T o used f (Call plan) (inl component) e = subst (λ (c : Option Id). IsCalled rs at (activation_of at plan) c T) (sym (ap (λ (p : Plan). p.cause) component.is)) e
advance_owed rs at T o used f (Call plan) (inr run) e = subst (λ (c : Option Id). IsCalled rs at (activation_of at plan) c T) (sym (ap (λ (p : Plan). p.cause) run.is)) e
advance_owed rs at T o used f (End r) does e = e

pub step_owed : (rs : Standing) (at : ℕ) (id : Id) (T : Trace) (item : Item) → step rs at T id ≡ Some item → IsOwed rs at item T
step_owed rs at id T item e =
    let s = step_is rs at id T item e in
    let d = s.driven in
    let here = subst (λ (x : Id). step rs at T x ≡ Some (item_of at d.composite.task d.frame d.advance)) (sym s.same) (e ∙ ap Some d.is) in
    subst (λ (x : Item). IsOwed rs at x T) (sym d.is) (advance_owed rs at T d.composite (used_by (find (is_frame d.composite.task.top) (frames T))) d.frame d.advance d.does here)

overrun_owed : (rs : Standing) (at : ℕ) (T : Trace) → AreOwed rs at (overrun_first at T) T
overrun_owed rs at T = each_overrun (IsOwed rs at) at T (λ r a. tt)

answered_end : (rs : Standing) (at : ℕ) (reply : RunReply) (r : Run) (o : Option Open) (T : Trace) → AreOwed rs at (end_items at (Replied reply) (Some r) o) T
answered_end rs at reply r None T = tt
answered_end rs at reply r (Some o) T = (tt, tt)

answered_owed : (rs : Standing) (at run : ℕ) (reply : RunReply) (r : Option Run) (T : Trace) → AreOwed rs at (reply_items at run reply (shown T) r) T
answered_owed rs at run reply None T = tt
answered_owed rs at run reply (Some r) T = (tt, answered_end rs at reply r (find (is_of r.id) (open_items T)) T)

pub steps_owed : StepsAreOwed
steps_owed = record {
  steps = λ n rs at T next. each_stepped (IsOwed rs at) n rs at T next (step_owed rs at);
  after = λ rs at items T owed. each_after (IsOwed rs at) rs at items T (step_owed rs at) owed;
  sweep = λ rs at T. (tt, each_swept (IsOwed rs at) (length (open_items T)) rs at T (step_owed rs at) (overrun_owed rs at));
  accept = λ rs at plan T none. (rw none tt, tt);
  answered = λ rs at run reply T. answered_owed rs at run reply (busy_run run (shown T)) T;
  overrun = λ rs at T. overrun_owed rs at T;
}

-- ---- acceptances of children and ends of composites

of_advance : (Q : Item → Type 0) (at : ℕ) (a : Activation) (f : Frame) (adv : Advance) → ((plan : Plan) → Q (Accepted (activation_of at plan)))
    → ((r : ResponseView) (children : List Id) (b : Activation) → Q (Ended (ended_by at (Composed r children) None b))) → Q (item_of at a f adv)
of_advance Q at a f (Call plan) accepts ends = accepts plan
of_advance Q at a f (End r) accepts ends = ends r f.children a

-- what holds of acceptances and of ends of composites holds of each step
pub all_steps : (Q : Item → Type 0) (n : ℕ) (rs : Standing) (at : ℕ) (T : Trace) (next : Option Id) → ((plan : Plan) → Q (Accepted (activation_of at plan)))
    → ((r : ResponseView) (children : List Id) (b : Activation) → Q (Ended (ended_by at (Composed r children) None b))) → AllByRecursion Q (stepped n rs at T next)
all_steps Q n rs at T next accepts ends =
    each_all Q (stepped n rs at T next) T
    (each_stepped (λ item U. Q item) n rs at T next (λ id U item e. let d = (step_is rs at id U item e).driven in subst Q (sym d.is) (of_advance Q at d.composite.task d.frame d.advance accepts ends)))

all_swept : (Q : Item → Type 0) (n : ℕ) (rs : Standing) (at : ℕ) (T : Trace) → ((plan : Plan) → Q (Accepted (activation_of at plan)))
    → ((r : ResponseView) (children : List Id) (b : Activation) → Q (Ended (ended_by at (Composed r children) None b))) → ((r : Run) (b : Activation) → Q (Ended (ended_by at Overran (Some r) b)))
    → AllByRecursion Q (swept_on n rs at T)
all_swept Q n rs at T accepts ends late =
    each_all Q (swept_on n rs at T) T
    (each_swept (λ item U. Q item) n rs at T (λ id U item e. let d = (step_is rs at id U item e).driven in subst Q (sym d.is) (of_advance Q at d.composite.task d.frame d.advance accepts ends))
    (λ U. each_overrun (λ item W. Q item) at U late))

kind_advance : (rs : Standing) (at : ℕ) (id : Id) (a : Activation) (used : Used) (f : Frame) (adv : Advance) → IsAdvance rs id a used f adv → IsStepItem at (item_of at a f adv)
kind_advance rs at id a used f (Call plan) (inl component) = (refl, rw (ap (λ (p : Plan). p.cause) component.is) tt)
kind_advance rs at id a used f (Call plan) (inr run) = (refl, rw (ap (λ (p : Plan). p.cause) run.is) tt)
kind_advance rs at id a used f (End r) does = (refl, tt)

kind_step : (rs : Standing) (at : ℕ) (id : Id) (T : Trace) (item : Item) → step rs at T id ≡ Some item → IsStepItem at item
kind_step rs at id T item e =
    let d = (step_is rs at id T item e).driven in
    subst (λ (x : Item). IsStepItem at x) (sym d.is) (kind_advance rs at (next_id (drawn T) d.composite.task.id.namespace) d.composite.task (used_by (find (is_frame d.composite.task.top) (frames T))) d.frame d.advance d.does)

rises_none : (xs : Trace) → AllByRecursion (λ item. rise item ≡ 0) xs → rises xs ≡ 0
rises_none [] all = refl
rises_none (x ∷ xs) all = omega (arith, all.0, rises_none xs all.1)

rises_append : (xs ys : Trace) → rises (xs ++ ys) ≡ rises xs + rises ys
rises_append [] ys = omega arith
rises_append (x ∷ xs) ys = omega (arith, rises_append xs ys)

rises_stepped : (n : ℕ) (rs : Standing) (at : ℕ) (T : Trace) (next : Option Id) → rises (stepped n rs at T next) ≡ 0
rises_stepped n rs at T next = rises_none (stepped n rs at T next) (all_steps (λ item. rise item ≡ 0) n rs at T next (λ plan. refl) (λ r children b. refl))

rises_after : (rs : Standing) (at : ℕ) (items T : Trace) → rises (steps_after rs at T items) ≡ rises items
rises_after rs at items T =
    omega (arith, rises_append (stepped MOST_STEPS rs at (items ++ T) (next_in items)) items, rises_stepped MOST_STEPS rs at (items ++ T) (next_in items))

late_none : (xs : Trace) → AllByRecursion (λ item. late_by item ≡ 0) xs → late_in xs ≡ 0
late_none [] all = refl
late_none (x ∷ xs) all = omega (arith, all.0, late_none xs all.1)

pub late_stepped : (n : ℕ) (rs : Standing) (at : ℕ) (T : Trace) (next : Option Id) → late_in (stepped n rs at T next) ≡ 0
late_stepped n rs at T next = late_none (stepped n rs at T next) (all_steps (λ item. late_by item ≡ 0) n rs at T next (λ plan. refl) (λ r children b. refl))

firing_kept : (xs T : Trace) → AllByRecursion (λ item. (o : Option Id) → firing_after item o ≡ o) xs → firing (xs ++ T) ≡ firing T
firing_kept [] T all = refl
firing_kept (x ∷ xs) T all = all.0 (firing (xs ++ T)) ∙ firing_kept xs T all.1

firing_stepped : (n : ℕ) (rs : Standing) (at : ℕ) (T : Trace) (next : Option Id) → firing (stepped n rs at T next ++ T) ≡ firing T
firing_stepped n rs at T next =
    firing_kept (stepped n rs at T next) T (all_steps (λ item. (o : Option Id) → firing_after item o ≡ o) n rs at T next (λ plan o. refl) (λ r children b o. refl))

pub stepped_none : (n : ℕ) (rs : Standing) (at : ℕ) (T : Trace) → stepped n rs at T None ≡ []
stepped_none zero rs at T = refl
stepped_none (suc n) rs at T = refl

pub after_none : (rs : Standing) (at : ℕ) (items T : Trace) → next_in items ≡ None → steps_after rs at T items ≡ items
after_none rs at items T none =
    ap (λ next. stepped MOST_STEPS rs at (items ++ T) next ++ items) none ∙ ap (λ xs. xs ++ items) (stepped_none MOST_STEPS rs at (items ++ T))

pub steps_plain : StepsArePlain
steps_plain = record {
  kinds = λ n rs at T next. each_all (IsStepItem at) (stepped n rs at T next) T (each_stepped (λ item U. IsStepItem at item) n rs at T next (kind_step rs at));
  moments = λ n rs at T next. all_steps (λ item. moment_of item ≡ at) n rs at T next (λ plan. refl) (λ r children b. refl);
  raises = λ n rs at T next. rises_stepped n rs at T next;
  after = λ rs at items T. rises_after rs at items T;
  sweep = λ rs at T. rises_none (sweep_items rs at T) (refl, all_swept (λ item. rise item ≡ 0) (length (open_items T)) rs at T (λ plan. refl) (λ r children b. refl) (λ r b. refl));
  swept = λ rs at T. (refl, all_swept (λ item. moment_of item ≡ at) (length (open_items T)) rs at T (λ plan. refl) (λ r children b. refl) (λ r b. refl));
  fires = λ rs at items T.
      ap firing (append_assoc (stepped MOST_STEPS rs at (items ++ T) (next_in items)) items T) ∙ firing_stepped MOST_STEPS rs at (items ++ T) (next_in items);
  late = λ n rs at T next. late_stepped n rs at T next;
  none = λ rs at items T none. after_none rs at items T none;
}
