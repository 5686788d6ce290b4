-- The steps of a composition are of the namespace of what they follow.
use Rattle.std.proofs.Common.{◌≡◌, ◌⊎◌, ◌++◌, ◌∙◌, ◌+◌, ℕ, zero, suc, Bool, true, false, cond, List, [], ◌∷◌, inl, inr, IfSome, Option, Some, None, append_assoc, refl, sym, ap, subst}
use Rattle.std.specs.List.{AllByRecursion, find}
use Rattle.std.specs.Option.{option_or}
use Rattle.ow_packages.specs.Access.{Standing}
use Rattle.ow_records.specs.Form.{is_composite}
use Rattle.ow_records.specs.Id.{same_id}
use Rattle.ow_records.specs.declared.activations.Activation.{Activation}
use Rattle.ow_records.specs.declared.frames.Frame.{Frame}
use Rattle.ow_records.specs.declared.frames.Used.{Used}
use Rattle.ow_records.specs.declared.ids.Id.{Id}
use Rattle.ow_records.specs.declared.outcomes.Ending.{Ending}
use Rattle.ow_records.specs.declared.outcomes.Ending.TheVariants.{Composed}
use Rattle.ow_records.specs.declared.record.Record.{Record}
use Rattle.ow_floor.specs.declared.activations.Open.{Open}
use Rattle.ow_floor.specs.declared.activations.Plan.{Plan}
use Rattle.ow_floor.specs.declared.runs.Run.{Run}
use Rattle.ow_floor.specs.Calls.{IsNext, accept_items, activation_of, ended_by}
use Rattle.ow_floor.specs.Frames.{is_frame}
use Rattle.ow_floor.specs.Laws.{AreApart, IsAmong, IsApart, IsSound}
use Rattle.ow_floor.specs.Trace.{Accepted, Answered, End as FloorEnd, Ended, Fired, Item, Trace, accepted, frames, open_item, open_items, record_of, records, records_after, shown, standing}
use Rattle.ow_floor.specs.View.{is_of}
use Rattle.ow_floor.proofs.Alters.{same_id_refl}
use Rattle.ow_floor.proofs.Among.{all_among, among_last, found_among}
use Rattle.ow_floor.proofs.Drawn.{drawn_last}
use Rattle.ow_floor.proofs.Firsts.{all_push, find_passes}
use Rattle.ow_floor.proofs.Soundness.{sound_items}
use Rattle.ow_floor.proofs.Tallies.{eq_of}
use Rattle.ow_commits.proofs.Ids.{all_both}
use Rattle.ow_reads.specs.View.{is_visible_record, may_read}
use Rattle.ow_tenant.specs.declared.entries.Holder.{Holder}
use Rattle.ow_trees.specs.Advance.{next_id, used_by}
use Rattle.ow_trees.specs.Driven.{IsAdvance, IsComponent, IsRun}
use Rattle.ow_trees.specs.Steps.{item_of, items_by, next_in, next_of, step, stepped, steps_after, unless_leaf}
use Rattle.ow_trees.specs.declared.advances.Advance.{Advance}
use Rattle.ow_trees.specs.declared.advances.Advance.TheVariants.{Call, End}
use Rattle.ow_trees.specs.declared.bounds.TheConstants.{MOST_STEPS}
use Rattle.ow_trees.proofs.Coming.{right_driven}
use Rattle.ow_trees.proofs.Stepping.{step_is}
use Rattle.ow_isolation.specs.Causes.{AreOfCauses, HasCause}
use Rattle.ow_isolation.proofs.CauseLaws.{driven_caused, one_more}

-- ---- an id is that of one activation

same_here : (x y z : Activation) (xs : List Activation) → IsApart z.id xs → x ≡ z → IsAmong y xs → x.id ≡ y.id → x ≡ y
same_here x y z xs apart here among same =
    let other : same_id z.id y.id ≡ false = (all_among (λ (a : Activation). (same_id z.id a.id ≡ false) × (same_id a.id z.id ≡ false)) y xs among apart).0 in
    let ids : z.id ≡ y.id = sym (ap (λ (a : Activation). a.id) here) ∙ same in
    let is : same_id z.id y.id ≡ true = subst (λ (i : Id). same_id z.id i ≡ true) ids (same_id_refl z.id) in
    cc

same_of : (x y : Activation) (xs : List Activation) → AreApart xs → IsAmong x xs → IsAmong y xs → x.id ≡ y.id → x ≡ y
same_of x y [] apart one two same = absurd one
same_of x y (z ∷ xs) apart (inl here) (inl there) same = here ∙ sym there
same_of x y (z ∷ xs) apart (inl here) (inr two) same = same_here x y z xs apart.0 here two same
same_of x y (z ∷ xs) apart (inr one) (inl there) same = sym (same_here y x z xs apart.0 there one (sym same))
same_of x y (z ∷ xs) apart (inr one) (inr two) same = same_of x y xs apart.1 one two same

-- ---- what is open under an id

-- it is of this namespace, if anything is
abbrev pub IsOpenIn : List ℕ → Option Id → Trace → Type 0
IsOpenIn namespace next T = IfSome next (λ (id : Id). IfSome (open_item T id) (λ (o : Open). o.task.namespace ≡ namespace))

found_in : (namespace : List ℕ) (id : Id) (T : Trace) (x : Activation) (o : Option Open) → IsSound T → IsAmong x (accepted T) → x.id ≡ id → x.namespace ≡ namespace → open_item T id ≡ o
    → IfSome o (λ (o : Open). o.task.namespace ≡ namespace)
found_in namespace id T x None sound among is home found = tt
found_in namespace id T x (Some o) sound among is home found =
    let there = found_among (is_of id) (standing T) (accepted T) o found in
    let named : o.task.id ≡ id = eq_of o.task.id id (find_passes (is_of id) o (open_items T) found) in
    let same : x ≡ o.task = same_of x o.task (accepted T) sound.apart among there (is ∙ sym named) in
    sym (ap (λ (a : Activation). a.namespace) same) ∙ home

-- where an activation of this id was accepted in the namespace
open_in : (namespace : List ℕ) (id : Id) (T : Trace) (x : Activation) → IsSound T → IsAmong x (accepted T) → x.id ≡ id → x.namespace ≡ namespace → IsOpenIn namespace (Some id) T
open_in namespace id T x sound among is home = found_in namespace id T x (open_item T id) sound among is home refl

-- the cause of what is of the namespace is
cause_in : (namespace subject : List ℕ) (cause : Option Id) (T : Trace) → IsSound T → HasCause cause namespace subject (accepted T) → IsOpenIn namespace cause T
cause_in namespace subject None T sound has = tt
cause_in namespace subject (Some id) T sound has = open_in namespace id T has.cause sound has.among has.is (sym has.home)

leaf_or : (namespace : List ℕ) (b : Bool) (id : Id) (T : Trace) → IsOpenIn namespace (Some id) T → IsOpenIn namespace (cond b (Some id) None) T
leaf_or namespace true id T h = h
leaf_or namespace false id T h = tt

-- what was accepted last is
last_in : (namespace : List ℕ) (a : Activation) (T : Trace) → IsSound (Accepted a ∷ T) → a.namespace ≡ namespace → IsOpenIn namespace (unless_leaf a.form a.id) (Accepted a ∷ T)
last_in namespace a T sound home =
    leaf_or namespace (is_composite a.form) a.id (Accepted a ∷ T) (open_in namespace a.id (Accepted a ∷ T) a sound (among_last a (accepted T)) refl home)

-- ---- one step

-- an acceptance, an end or a fire is of this namespace
abbrev pub IsIn : List ℕ → Item → Type 0
IsIn namespace (Accepted a) = a.namespace ≡ namespace
IsIn namespace (Ended e) = e.task.namespace ≡ namespace
IsIn namespace (Fired r) = r.namespace ≡ namespace
IsIn namespace item = Unit {0}

abbrev pub AreIn : List ℕ → Trace → Type 0
AreIn namespace items = AllByRecursion (IsIn namespace) items

-- the item is of the namespace, and so is the composite that may owe a step after it
abbrev LeadsIn : List ℕ → Item → Trace → Type 0
LeadsIn namespace item T = IsIn namespace item × IsOpenIn namespace (next_of item) (item ∷ T)

plan_home : (rs : Standing) (id : Id) (p : Activation) (used : Used) (f : Frame) (plan : Plan) → IsComponent rs id p used f plan ⊎ IsRun id p used f plan → plan.namespace ≡ p.namespace
plan_home rs id p used f plan (inl c) = ap (λ (x : Plan). x.namespace) c.is
plan_home rs id p used f plan (inr run) = ap (λ (x : Plan). x.namespace) run.is

-- what was added is of the namespace, and the trace is as before
pub record IsInside (namespace : List ℕ) (items T : Trace) : Type 0 where
  pub inside : AreIn namespace items
  pub sound : IsSound (items ++ T)
  pub causes : AreOfCauses (items ++ T)

module _ (namespace : List ℕ) (rs : Standing) (at : ℕ) (T : Trace) (sound : IsSound T) (causes : AreOfCauses T) where
  leads_by : (item : Item) (id : Id) (p : Activation) (used : Used) (f : Frame) (x : Advance) → IsAdvance rs id p used f x → IsAmong p (accepted T) → p.namespace ≡ namespace → IsSound (item ∷ T)
      → item ≡ item_of at p f x → LeadsIn namespace item T
  leads_by item id p used f (Call plan) does among home after is =
      let inside : plan.namespace ≡ namespace = plan_home rs id p used f plan does ∙ home in
      subst (λ (i : Item). LeadsIn namespace i T) (sym is)
      (inside, last_in namespace (activation_of at plan) T (subst (λ (i : Item). IsSound (i ∷ T)) is after) inside)
  leads_by item id p used f (End r) does among home after is =
      let has = all_among (λ (x : Activation). HasCause x.cause x.namespace x.subject (accepted T)) p (accepted T) among causes.activations in
      let e : FloorEnd = ended_by at (Composed r f.children) None p in
      let next = cause_in p.namespace p.subject p.cause (Ended e ∷ T) (subst (λ (i : Item). IsSound (i ∷ T)) is after) has in
      subst (λ (i : Item). LeadsIn namespace i T) (sym is) (home, subst (λ (n : List ℕ). IsOpenIn n p.cause (Ended e ∷ T)) home next)

  -- a step of what is open in the namespace is of the namespace
  step_leads : (id : Id) (item : Item) → step rs at T id ≡ Some item → IsOpenIn namespace (Some id) T → LeadsIn namespace item T × (IsSound (item ∷ T) × AreOfCauses (item ∷ T))
  step_leads id item is here =
      let s = step_is rs at id T item is in
      let d = s.driven in
      let p = d.composite.task in
      let found : open_item T id ≡ Some d.composite = subst (λ (i : Id). open_item T i ≡ Some d.composite) s.same d.is_open in
      let home : p.namespace ≡ namespace = subst (λ (o : Option Open). IfSome o (λ (x : Open). x.task.namespace ≡ namespace)) found here in
      let after = (sound_items (item ∷ []) T (right_driven rs at item T d) sound).0 in (
        leads_by item (next_id (shown T).drawn p.id.namespace) p (used_by (find (is_frame p.top) (frames T))) d.frame d.advance d.does
            (found_among (is_of p.id) (standing T) (accepted T) d.composite d.is_open) home after d.is,
        (after, one_more item T (driven_caused rs at item T d) causes),
      )

  by_step : (n : ℕ) (id : Id) (o : Option Item) → step rs at T id ≡ o → IsOpenIn namespace (Some id) T
      → ((item : Item) → IsSound (item ∷ T) → AreOfCauses (item ∷ T) → IsOpenIn namespace (next_of item) (item ∷ T) → IsInside namespace (stepped n rs at (item ∷ T) (next_of item)) (item ∷ T))
      → IsInside namespace (items_by o (λ item. stepped n rs at (item ∷ T) (next_of item) ++ item ∷ [])) T
  by_step n id None is here more = record { inside = tt; sound = sound; causes = causes }
  by_step n id (Some item) is here more =
      let made = step_leads id item is here in
      let rest = more item made.1.0 made.1.1 made.0.1 in
      let following : Trace = stepped n rs at (item ∷ T) (next_of item) in
      record {
        inside = all_both (IsIn namespace) following (item ∷ []) rest.inside (made.0.0, tt);
        sound = subst (λ (U : Trace). IsSound U) (sym (append_assoc following (item ∷ []) T)) rest.sound;
        causes = subst (λ (U : Trace). AreOfCauses U) (sym (append_assoc following (item ∷ []) T)) rest.causes;
      }

stepped_in : (namespace : List ℕ) (rs : Standing) (at n : ℕ) (T : Trace) (next : Option Id) → IsSound T → AreOfCauses T → IsOpenIn namespace next T → IsInside namespace (stepped n rs at T next) T
stepped_in namespace rs at zero T next sound causes here = record { inside = tt; sound = sound; causes = causes }
stepped_in namespace rs at (suc n) T None sound causes here = record { inside = tt; sound = sound; causes = causes }
stepped_in namespace rs at (suc n) T (Some id) sound causes here =
    by_step namespace rs at T sound causes n id (step rs at T id) refl here (λ item after caused there. stepped_in namespace rs at n (item ∷ T) (next_of item) after caused there)

-- ---- what follows

-- items of a namespace, and the steps that follow them, are of the namespace
pub after_in : (namespace : List ℕ) (rs : Standing) (at : ℕ) (items T : Trace) → IsInside namespace items T → IsOpenIn namespace (next_in items) (items ++ T) → IsInside namespace (steps_after rs at T items) T
after_in namespace rs at items T made here =
    let following : Trace = stepped MOST_STEPS rs at (items ++ T) (next_in items) in
    let rest = stepped_in namespace rs at MOST_STEPS (items ++ T) (next_in items) made.sound made.causes here in
    record {
      inside = all_both (IsIn namespace) following items rest.inside made.inside;
      sound = subst (λ (U : Trace). IsSound U) (sym (append_assoc following items T)) rest.sound;
      causes = subst (λ (U : Trace). AreOfCauses U) (sym (append_assoc following items T)) rest.causes;
    }

or_none : (namespace : List ℕ) (next : Option Id) (T : Trace) → IsOpenIn namespace next T → IsOpenIn namespace (option_or next None) T
or_none namespace None T h = tt
or_none namespace (Some id) T h = h

-- the items of a plan that no activation causes are of the plan's namespace
pub plan_in : (rs : Standing) (at : ℕ) (plan : Plan) (T : Trace) → IsSound T → AreOfCauses T → IsNext plan.id T → plan.cause ≡ None → IsInside plan.namespace (steps_after rs at T (accept_items at plan)) T
plan_in rs at plan T sound causes new uncaused =
    let a : Activation = activation_of at plan in
    let first : IsSound (Accepted a ∷ T) = (sound_items (Accepted a ∷ []) T ((new ∙ ap (λ (n : ℕ). n + 1) (sym (drawn_last T plan.id.namespace)), tt), tt) sound).0 in
    let caused : AreOfCauses (Accepted a ∷ T) = one_more (Accepted a) T (subst (λ (o : Option Id). HasCause o plan.namespace plan.subject (accepted T)) (sym uncaused) tt) causes in
    after_in plan.namespace rs at (accept_items at plan) T (record { inside = (refl, tt); sound = first; causes = caused })
    (or_none plan.namespace (unless_leaf a.form a.id) (Accepted a ∷ T) (last_in plan.namespace a T first refl))

-- such a plan, charged to this namespace
pub record IsPlanOf (namespace : List ℕ) (T : Trace) (plan : Plan) : Type 0 where
  pub home : plan.namespace ≡ namespace
  pub next : IsNext plan.id T
  pub uncaused : plan.cause ≡ None

-- ---- what a reply ends

unstepped : (n : ℕ) (rs : Standing) (at : ℕ) (T : Trace) → stepped n rs at T None ≡ []
unstepped zero rs at T = refl
unstepped (suc n) rs at T = refl

-- where nothing ends no step follows
pub alone : (rs : Standing) (at : ℕ) (items T : Trace) → next_in items ≡ None → steps_after rs at T items ≡ items
alone rs at items T none =
    ap (λ (o : Option Id). stepped MOST_STEPS rs at (items ++ T) o ++ items) none ∙ ap (λ (xs : Trace). xs ++ items) (unstepped MOST_STEPS rs at (items ++ T))

-- the end of an open activation, and the reply after it
pub ended_in : (rs : Standing) (at run : ℕ) (alive : Bool) (ending : Ending) (r : Run) (o : Open) (T : Trace) → find (is_of r.id) (open_items T) ≡ Some o → IsSound (Answered run alive at ∷ Ended (ended_by at ending (Some r) o.task) ∷ T)
    → AreOfCauses T → AreIn o.task.namespace (steps_after rs at T (Answered run alive at ∷ Ended (ended_by at ending (Some r) o.task) ∷ []))
ended_in rs at run alive ending r o T found sound causes =
    let e : FloorEnd = ended_by at ending (Some r) o.task in
    let a = o.task in
    let among = found_among (is_of r.id) (standing T) (accepted T) o found in
    let before = one_more (Ended e) T among causes in
    let has = all_among (λ (x : Activation). HasCause x.cause x.namespace x.subject (accepted T)) a (accepted T) among causes.activations in
    (after_in a.namespace rs at (Answered run alive at ∷ Ended e ∷ []) T
    (record { inside = (tt, (refl, tt)); sound = sound; causes = one_more (Answered run alive at) (Ended e ∷ T) tt before })
    (or_none a.namespace a.cause (Answered run alive at ∷ Ended e ∷ T) (cause_in a.namespace a.subject a.cause (Answered run alive at ∷ Ended e ∷ T) sound has))).inside

-- ---- what isn't seen

hidden_after : (h : Holder) (namespace : List ℕ) (item : Item) (rs : List Record) → may_read h.rights namespace ≡ false → IsIn namespace item
    → AllByRecursion (λ (r : Record). is_visible_record h.rights r ≡ false) rs → AllByRecursion (λ (r : Record). is_visible_record h.rights r ≡ false) (records_after item rs)
hidden_after h namespace (Ended e) rs closed home all = all_push (λ (r : Record). is_visible_record h.rights r ≡ false) (record_of e) rs (ap (may_read h.rights) home ∙ closed) all
hidden_after h namespace (Fired r) rs closed home all = all_push (λ (x : Record). is_visible_record h.rights x ≡ false) r rs (ap (may_read h.rights) home ∙ closed) all
hidden_after h namespace item rs closed home all = all

-- records of a namespace aren't seen where the holder may not read in it
pub hidden_records : (h : Holder) (namespace : List ℕ) (items : Trace) → may_read h.rights namespace ≡ false → AreIn namespace items
    → AllByRecursion (λ (r : Record). is_visible_record h.rights r ≡ false) (records items)
hidden_records h namespace [] closed all = tt
hidden_records h namespace (item ∷ items) closed all = hidden_after h namespace item (records items) closed all.0 (hidden_records h namespace items closed all.1)
