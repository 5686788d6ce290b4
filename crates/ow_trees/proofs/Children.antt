-- What is known of the children that composites call, and of the ends of composites.
use Rattle.std.proofs.Common.{◌≡◌, ◌⊎◌, ◌+◌, ◌==◌, ◌∙◌, ℕ, zero, suc, Bool, true, false, cond, List, length, inl, inr, IfSome, Option, Some, None, option_map, refl, sym, ap, subst}
use Rattle.std.specs.Prelude.{slice_get}
use Rattle.std.specs.List.{find}
use Rattle.std.specs.Option.{option_or}
use Rattle.std.specs.Result.{result_ok}
use Rattle.ow_value.specs.Value.{Pairs}
use Rattle.ow_names.specs.Path.{resolved}
use Rattle.ow_names.specs.declared.full.FullName.{FullName}
use Rattle.ow_entity.specs.Exec.{components_of}
use Rattle.ow_packages.specs.Access.{Standing}
use Rattle.ow_packages.specs.Effective.{effective}
use Rattle.ow_packages.specs.declared.effective_action.Effective.{Effective}
use Rattle.ow_records.specs.Response.{ResponseView}
use Rattle.ow_records.specs.declared.activations.Activation.{Activation}
use Rattle.ow_records.specs.declared.forms.Form.{Form}
use Rattle.ow_records.specs.declared.forms.Form.TheVariants as forms
use Rattle.ow_records.specs.declared.frames.Frame.{Frame}
use Rattle.ow_records.specs.declared.frames.Used.{Used}
use Rattle.ow_records.specs.declared.ids.Id.{Id}
use Rattle.ow_records.specs.declared.outcomes.Ending.TheVariants.{Composed}
use Rattle.ow_compose.specs.Refusal.{component_of, find_component, form_of, refused}
use Rattle.ow_compose.specs.Sequence.{call_or_done, first_call, seq_step, seq_step_of}
use Rattle.ow_compose.specs.declared.refusals.Untold.{Untold}
use Rattle.ow_compose.specs.declared.steps.Step.{Step}
use Rattle.ow_compose.specs.declared.steps.Step.TheVariants as steps
use Rattle.ow_floor.specs.Calls.{IsNext, activation_of, ended_by}
use Rattle.ow_floor.specs.Frames.{is_frame}
use Rattle.ow_floor.specs.Laws.{IsAmong}
use Rattle.ow_floor.specs.Trace.{Accepted, End as FloorEnd, Ended, Trace, accepted, frames, shown, standing}
use Rattle.ow_floor.specs.View.{is_of}
use Rattle.ow_floor.proofs.Among.{found_among}
use Rattle.ow_floor.proofs.Drawn.{drawn_last}
use Rattle.ow_trees.specs.Advance.{component_plan, next_id, run_plan, form_step, used_by}
use Rattle.ow_trees.specs.Driven.{IsAdvance, IsDriven, IsStep}
use Rattle.ow_trees.specs.Steps.{item_of}
use Rattle.ow_trees.specs.declared.advances.Advance.{Advance}
use Rattle.ow_trees.specs.declared.advances.Advance.TheVariants.{Call, End}

-- ---- why a child is called

-- some name calls this
abbrev pub IsNamed : Standing → Effective → Type 0
IsNamed rs e = (name : FullName) × ((from : List ℕ) × (effective rs name from ≡ Some e))

-- it is what some name calls, in the form of its action
pub record IsComponentCall (rs : Standing) (a : Activation) : Type 0 where
  pub called : Effective
  pub named : IsNamed rs called
  pub action : a.action ≡ called.action
  pub binding : a.binding ≡ called.binding
  pub form : a.form ≡ form_of called.action

-- it is a run of the own code of a conductor
pub record IsOwnRun (cause a : Activation) : Type 0 where
  pub conductor : cause.form ≡ forms.Conductor
  pub action : a.action ≡ cause.action
  pub binding : a.binding ≡ cause.binding
  pub form : a.form ≡ forms.Leaf

-- a child of an open composite, which has its namespace and its subject
pub record IsChild (rs : Standing) (at : ℕ) (cause a : Activation) (T : Trace) : Type 0 where
  pub among : IsAmong cause (accepted T)
  pub next : IsNext a.id T
  pub moment : a.at ≡ at
  pub cause_is : a.cause ≡ Some cause.id
  pub namespace : a.namespace ≡ cause.namespace
  pub subject : a.subject ≡ cause.subject
  pub why : IsComponentCall rs a ⊎ IsOwnRun cause a

-- ---- a name that is found calls something

first_or : {X : Type 0} (o p : Option X) (x : X) (A : Type 0) → (o ≡ Some x → A) → (p ≡ Some x → A) → option_or o p ≡ Some x → A
first_or None p x A first second is = second is
first_or (Some y) p x A first second is = first is

named_by : (rs : Standing) (from home : List ℕ) (o : Option FullName) (e : Effective) → component_of rs from home o ≡ Some e → IsNamed rs e
named_by rs from home None e is = cc
named_by rs from home (Some n) e is =
    first_or (effective rs n from) (effective rs n home) e (IsNamed rs e) (λ h. (n, (from, h))) (λ h. (n, (home, h))) is

named : (rs : Standing) (written from home : List ℕ) (e : Effective) → find_component rs written from home ≡ Some e → IsNamed rs e
named rs written from home e is = named_by rs from home (result_ok (resolved from written)) e is

-- ---- only a conductor's own code runs

abbrev IsNoRun : Step → Type 0
IsNoRun (steps.Conductor params) = ⊥
IsNoRun step = Unit {0}

first_no_run : (o : Option FullName) (params : Pairs) → IfSome (first_call o params) IsNoRun
first_no_run None params = tt
first_no_run (Some n) params = tt

call_no_run : (o : Option FullName) (r : ResponseView) → IsNoRun (call_or_done o r)
call_no_run None r = tt
call_no_run (Some n) r = tt

after_no_run : (b : Bool) (o : Option FullName) (r : ResponseView) → IsNoRun (cond b (call_or_done o r) (steps.Done r))
after_no_run true o r = call_no_run o r
after_no_run false o r = tt

seq_no_run : (components : List FullName) (params : Pairs) (n : ℕ) (r : Option ResponseView) → IfSome (seq_step components params n r) IsNoRun
seq_no_run components params zero r = first_no_run (slice_get components 0) params
seq_no_run components params (suc n) None = tt
seq_no_run components params (suc n) (Some r) = after_no_run (r.code == 0) (slice_get components (suc n)) r

no_run : {A : Type 0} (o : Option Step) (params : Pairs) → IfSome o IsNoRun → o ≡ Some (steps.Conductor params) → A
no_run o params h is = absurd (subst (λ (x : Option Step). IfSome x IsNoRun) is h)

-- by the form of the composite
conducts : (form : Form) (a : Activation) (used : Used) (f : Frame) (params : Pairs) → form_step form a used f ≡ Some (steps.Conductor params) → form ≡ forms.Conductor
conducts forms.Leaf a used f params is = cc
conducts forms.Sequence a used f params is =
    no_run (seq_step_of (components_of a.action.exec) a.params f) params (seq_no_run (components_of a.action.exec) a.params (length f.children) (option_map (λ h. h.response) f.last)) is
conducts forms.Conductor a used f params is = refl

reruns : (form : Form) (own : Pairs) (used : Used) (conducted : Option ResponseView) (why : Untold) (params : Pairs) → refused form own used conducted why ≡ steps.Conductor params → form ≡ forms.Conductor
reruns forms.Leaf own used conducted why params is = cc
reruns forms.Sequence own used conducted why params is = cc
reruns forms.Conductor own used conducted why params is = refl

of_conductor : (a : Activation) (used : Used) (f : Frame) (params : Pairs) → IsStep a used f (steps.Conductor params) → a.form ≡ forms.Conductor
of_conductor a used f params (inl is) = conducts a.form a used f params is
of_conductor a used f params (inr again) = reruns a.form a.own used f.conducted again.0 params again.1

-- ---- children

module _ (rs : Standing) (at : ℕ) (T : Trace) (a p : Activation) (among : IsAmong p (accepted T)) where
  abbrev id : Id
  id = next_id (shown T).drawn p.id.namespace

  next_here : IsNext id T
  next_here = ap (λ n. n + 1) (drawn_last T p.id.namespace)

  component_child : (called : Effective) (params : Pairs) → IsNamed rs called → a ≡ activation_of at (component_plan id p called params) → IsChild rs at p a T
  component_child called params named is = record {
    among = among;
    next = subst (λ (x : Activation). IsNext x.id T) (sym is) next_here;
    moment = ap (λ (x : Activation). x.at) is;
    cause_is = ap (λ (x : Activation). x.cause) is;
    namespace = ap (λ (x : Activation). x.namespace) is;
    subject = ap (λ (x : Activation). x.subject) is;
    why = inl (record {
      called = called;
      named = named;
      action = ap (λ (x : Activation). x.action) is;
      binding = ap (λ (x : Activation). x.binding) is;
      form = ap (λ (x : Activation). x.form) is;
    });
  }

  run_child : (params : Pairs) → p.form ≡ forms.Conductor → a ≡ activation_of at (run_plan id p params) → IsChild rs at p a T
  run_child params conductor is = record {
    among = among;
    next = subst (λ (x : Activation). IsNext x.id T) (sym is) next_here;
    moment = ap (λ (x : Activation). x.at) is;
    cause_is = ap (λ (x : Activation). x.cause) is;
    namespace = ap (λ (x : Activation). x.namespace) is;
    subject = ap (λ (x : Activation). x.subject) is;
    why = inr (record {
      conductor = conductor;
      action = ap (λ (x : Activation). x.action) is;
      binding = ap (λ (x : Activation). x.binding) is;
      form = ap (λ (x : Activation). x.form) is;
    });
  }

  by_advance : (used : Used) (f : Frame) (x : Advance) → IsAdvance rs id p used f x → Accepted a ≡ item_of at p f x → IsChild rs at p a T
  by_advance used f (End r) does is = cc
  by_advance used f (Call plan) (inl c) is =
      let same : a ≡ activation_of at plan = cc in
      component_child c.called c.params (named rs c.written p.namespace p.action.name.namespace c.called c.found) (same ∙ ap (activation_of at) c.is)
  by_advance used f (Call plan) (inr run) is =
      let same : a ≡ activation_of at plan = cc in
      run_child run.params (of_conductor p used f run.params run.step) (same ∙ ap (activation_of at) run.is)

-- an acceptance that is a step is that of a child
pub child_of : (rs : Standing) (at : ℕ) (a : Activation) (T : Trace) → (d : IsDriven rs at (Accepted a) T) → IsChild rs at d.composite.task a T
child_of rs at a T d =
    let p = d.composite.task in
    by_advance rs at T a p (found_among (is_of p.id) (standing T) (accepted T) d.composite d.is_open) (used_by (find (is_frame p.top) (frames T))) d.frame d.advance d.does d.is

-- ---- ends

-- a composite that was open ends with what its step answers, and with the children that its frame has
pub record IsComposedEnd (at : ℕ) (e : FloorEnd) (T : Trace) : Type 0 where
  pub among : IsAmong e.task (accepted T)
  pub frame : Frame
  pub framed : find (is_frame e.task.id) (frames T) ≡ Some frame
  pub used : Used
  pub response : ResponseView
  pub answers : IsStep e.task used frame (steps.Done response)
  pub moment : e.at ≡ at
  pub run : e.run ≡ None
  pub ending : e.ending ≡ Composed response frame.children

end_by : (rs : Standing) (at : ℕ) (T : Trace) (e : FloorEnd) (p : Activation) (id : Id) (used : Used) (f : Frame) (x : Advance) → IsAmong p (accepted T) → find (is_frame p.id) (frames T) ≡ Some f
    → IsAdvance rs id p used f x → Ended e ≡ item_of at p f x → IsComposedEnd at e T
end_by rs at T e p id used f (Call plan) among framed does is = cc
end_by rs at T e p id used f (End r) among framed does is =
    let same : e ≡ ended_by at (Composed r f.children) None p = cc in
    subst (λ (x : FloorEnd). IsComposedEnd at x T) (sym same) (record {
      among = among;
      frame = f;
      framed = framed;
      used = used;
      response = r;
      answers = does;
      moment = refl;
      run = refl;
      ending = refl;
    })

-- an end that is a step is that of a composite
pub end_of : (rs : Standing) (at : ℕ) (e : FloorEnd) (T : Trace) → IsDriven rs at (Ended e) T → IsComposedEnd at e T
end_of rs at e T d =
    let p = d.composite.task in
    end_by rs at T e p (next_id (shown T).drawn p.id.namespace) (used_by (find (is_frame p.top) (frames T))) d.frame d.advance
    (found_among (is_of p.id) (standing T) (accepted T) d.composite d.is_open) d.framed d.does d.is
