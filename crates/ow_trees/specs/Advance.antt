-- What a composite does next, with all that it takes: which activation it calls, or what it answers at last.
use Rattle.std.specs.Prelude.{◌+◌, ℕ, List, [], if◌then◌else◌, Option, Some, None, Result, Ok, Err}
use Rattle.std.specs.List.{find}
use Rattle.ow_value.specs.Value.{Pairs}
use Rattle.ow_entity.specs.Exec.{components_of}
use Rattle.ow_packages.specs.Access.{Standing}
use Rattle.ow_packages.specs.declared.effective_action.Effective.{Effective}
use Rattle.ow_records.specs.Form.{is_composite}
use Rattle.ow_records.specs.Frame.{one_more}
use Rattle.ow_records.specs.declared.activations.Activation.{Activation}
use Rattle.ow_records.specs.declared.forms.Form.{Form}
use Rattle.ow_records.specs.declared.forms.Form.TheVariants.{Leaf, Sequence, Conductor}
use Rattle.ow_records.specs.declared.forms.Role.{Role}
use Rattle.ow_records.specs.declared.forms.Role.TheVariants.{Component, Run}
use Rattle.ow_records.specs.declared.frames.Frame.{Frame}
use Rattle.ow_records.specs.declared.frames.Used.{Used}
use Rattle.ow_records.specs.declared.ids.Id.{Id}
use Rattle.ow_compose.specs.Conductor.{conduct_step_of}
use Rattle.ow_compose.specs.Refusal.{check_component, find_component, form_of, refused}
use Rattle.ow_compose.specs.Sequence.{seq_step_of}
use Rattle.ow_compose.specs.declared.refusals.Untold.{Untold}
use Rattle.ow_compose.specs.declared.refusals.Untold.TheVariants.{Missing}
use Rattle.ow_compose.specs.declared.steps.Step.{Step}
use Rattle.ow_compose.specs.declared.steps.Step.TheVariants as steps
use Rattle.ow_floor.specs.Frames.{is_frame}
use Rattle.ow_floor.specs.View.{Shown, last_of}
use Rattle.ow_floor.specs.declared.activations.Plan.{Plan}
use Rattle.ow_trees.specs.declared.advances.Advance.{Advance}
use Rattle.ow_trees.specs.declared.advances.Advance.TheVariants.{Call, End}

-- ---- what is known of a composite

-- the next id of the namespace
abbrev pub next_id : List Id → ℕ → Id
next_id drawn namespace = record { namespace = namespace; count = last_of drawn namespace + 1 }

-- what the tree has used, by the frame of its first composite
abbrev pub used_by : Option Frame → Used
used_by None = record { components = 0; conductors = 0 }
used_by (Some f) = f.used

-- ---- the step

abbrev pub form_step : Form → Activation → Used → Frame → Option Step
form_step Leaf a used f = None
form_step Sequence a used f = seq_step_of (components_of a.action.exec) a.params f
form_step Conductor a used f = conduct_step_of a.own a.params used f

-- the step of a sequence or of a conductor, by what its tree has used
abbrev pub next_step : Activation → Used → Frame → Option Step
next_step a used f = form_step a.form a used f

-- ---- children

-- a child is charged to the namespace of its cause, and made in the same name
abbrev pub child_plan : Id → Activation → Effective → Pairs → Form → Role → ℕ → Plan
child_plan id cause called params form role depth = record {
  id = id;
  namespace = cause.namespace;
  effective = called;
  params = params;
  subject = cause.subject;
  cause = Some cause.id;
  until = None;
  form = form;
  role = role;
  top = cause.top;
  depth = depth;
}

-- how many composites there are from the first one down to a child of this form, below one of this depth
abbrev pub depth_below : Form → ℕ → ℕ
depth_below form depth = if is_composite form then one_more depth else depth

-- a component is called
abbrev pub component_plan : Id → Activation → Effective → Pairs → Plan
component_plan id cause called params =
    child_plan id cause called params (form_of called.action) Component (depth_below (form_of called.action) cause.depth)

-- the conductor's own action, as it was when the conductor was accepted
abbrev pub own_action : Activation → Effective
own_action a = record { action = a.action; params = []; binding = a.binding }

-- a conductor's own code runs
abbrev pub run_plan : Id → Activation → Pairs → Plan
run_plan id cause params = child_plan id cause (own_action cause) params Leaf Run cause.depth

-- ---- what the step results in

-- a step that names no component
abbrev pub plain_advance : Id → Activation → Step → Option Advance
plain_advance id a (steps.Named written given) = None
plain_advance id a (steps.Conductor params) = Some (Call (run_plan id a params))
plain_advance id a (steps.Done r) = Some (End r)

-- a component isn't called
abbrev pub refused_advance : Id → Activation → Used → Frame → Untold → Option Advance
refused_advance id a used f why = plain_advance id a (refused a.form a.own used f.conducted why)

-- a component is called with these parameters, or isn't called
abbrev pub checked_advance : Id → Activation → Used → Frame → Effective → Result Pairs Untold → Option Advance
checked_advance id a used f called (Err why) = refused_advance id a used f why
checked_advance id a used f called (Ok params) = Some (Call (component_plan id a called params))

-- by what the component's name calls
abbrev pub found_advance : Id → Activation → Used → Frame → Pairs → Option Effective → Option Advance
found_advance id a used f given None = refused_advance id a used f Missing
found_advance id a used f given (Some called) = checked_advance id a used f called (check_component called given used a.depth)

-- a component is looked up from the activation's namespace, or else from that of the composite action
abbrev pub step_advance : Standing → Id → Activation → Used → Frame → Step → Option Advance
step_advance rs id a used f (steps.Named written given) = found_advance id a used f given (find_component rs written a.namespace a.action.name.namespace)
step_advance rs id a used f (steps.Conductor params) = plain_advance id a (steps.Conductor params)
step_advance rs id a used f (steps.Done r) = plain_advance id a (steps.Done r)

abbrev pub advance_by : Standing → Id → Activation → Used → Frame → Option Step → Option Advance
advance_by rs id a used f None = None
advance_by rs id a used f (Some step) = step_advance rs id a used f step

abbrev pub advance_with : Standing → Id → Activation → Used → Frame → Option Advance
advance_with rs id a used f = advance_by rs id a used f (next_step a used f)

-- what an open composite of this frame does next; nothing while its last child is open. A child's id is the next id of the namespace of the
-- composite's own id
abbrev pub advance_of : Standing → Shown → Activation → Frame → Option Advance
advance_of rs v a f = advance_with rs (next_id v.drawn a.id.namespace) a (used_by (find (is_frame a.top) v.frames)) f

abbrev pub advance_in : Standing → Shown → Option Activation → Option Frame → Option Advance
advance_in rs v None f = None
advance_in rs v (Some a) None = None
advance_in rs v (Some a) (Some f) = advance_of rs v a f
