-- What is known of an item that is a step of a composite.
use Rattle.std.specs.Prelude.{◌≡◌, ◌⊎◌, ℕ, List, codes, Some, Ok}
use Rattle.std.specs.List.{find}
use Rattle.ow_value.specs.Value.{Pairs}
use Rattle.ow_packages.specs.Access.{Standing}
use Rattle.ow_packages.specs.declared.effective_action.Effective.{Effective}
use Rattle.ow_records.specs.Outcome.{failure, of_object}
use Rattle.ow_records.specs.Response.{ResponseView}
use Rattle.ow_records.specs.declared.activations.Activation.{Activation}
use Rattle.ow_records.specs.declared.frames.Frame.{Frame}
use Rattle.ow_records.specs.declared.frames.Heard.{Heard}
use Rattle.ow_records.specs.declared.frames.Used.{Used}
use Rattle.ow_records.specs.declared.ids.Id.{Id}
use Rattle.ow_compose.specs.Conductor.{answered, final_result}
use Rattle.ow_compose.specs.Refusal.{check_component, find_component, refused}
use Rattle.ow_compose.specs.declared.refusals.Untold.{Untold}
use Rattle.ow_compose.specs.declared.steps.Step.{Step}
use Rattle.ow_compose.specs.declared.steps.Step.TheVariants as steps
use Rattle.ow_floor.specs.Frames.{is_frame}
use Rattle.ow_floor.specs.Trace.{Item, Trace, frames, open_item, shown}
use Rattle.ow_floor.specs.declared.activations.Open.{Open}
use Rattle.ow_floor.specs.declared.activations.Plan.{Plan}
use Rattle.ow_trees.specs.Advance.{component_plan, next_id, next_step, run_plan, used_by}
use Rattle.ow_trees.specs.Each.{AreEach}
use Rattle.ow_trees.specs.Steps.{item_of}
use Rattle.ow_trees.specs.declared.advances.Advance.{Advance}
use Rattle.ow_trees.specs.declared.advances.Advance.TheVariants.{Call, End}

-- a component: its name is found, it may be called, and it gets its own parameters with what is given over them
pub record IsComponent (rs : Standing) (id : Id) (a : Activation) (used : Used) (f : Frame) (plan : Plan) : Type 0 where
  pub written : List ℕ
  pub given : Pairs
  pub called : Effective
  pub params : Pairs
  pub step : next_step a used f ≡ Some (steps.Named written given)
  pub found : find_component rs written a.namespace a.action.name.namespace ≡ Some called
  pub checked : check_component called given used a.depth ≡ Ok params
  pub is : plan ≡ component_plan id a called params

-- the step comes of the children, or of a component that isn't called
abbrev pub IsStep : Activation → Used → Frame → Step → Type 0
IsStep a used f s = (next_step a used f ≡ Some s) ⊎ ((why : Untold) × (refused a.form a.own used f.conducted why ≡ s))

-- a run of a conductor's own code
pub record IsRun (id : Id) (a : Activation) (used : Used) (f : Frame) (plan : Plan) : Type 0 where
  pub params : Pairs
  pub step : IsStep a used f (steps.Conductor params)
  pub is : plan ≡ run_plan id a params

abbrev pub IsAdvance : Standing → Id → Activation → Used → Frame → Advance → Type 0
IsAdvance rs id a used f (Call plan) = IsComponent rs id a used f plan ⊎ IsRun id a used f plan
IsAdvance rs id a used f (End r) = IsStep a used f (steps.Done r)

-- a composite answers what its last child did, the result of its own code's last run, or an error of this text
abbrev pub IsAnswer : Frame → ResponseView → Type 0
IsAnswer f r =
    ((h : Heard) × (f.last ≡ Some h) × ((r ≡ h.response) ⊎ (r ≡ of_object (final_result h.response.result (answered (codes "params") h.response)))))
    ⊎ ((message : List ℕ) × (r ≡ failure 1 message))

-- a step of an open composite: it calls a component, runs its own code, or ends
pub record IsDriven (rs : Standing) (at : ℕ) (item : Item) (T : Trace) : Type 0 where
  pub composite : Open
  pub frame : Frame
  pub advance : Advance
  pub is_open : open_item T composite.task.id ≡ Some composite
  pub framed : find (is_frame composite.task.id) (frames T) ≡ Some frame
  pub does : IsAdvance rs (next_id (shown T).drawn composite.task.id.namespace) composite.task (used_by (find (is_frame composite.task.top) (frames T))) frame advance
  pub is : item ≡ item_of at composite.task frame advance

-- each of these items over the items before it
abbrev pub AreDriven : Standing → ℕ → Trace → Trace → Type 0
AreDriven rs at items T = AreEach (IsDriven rs at) items T
