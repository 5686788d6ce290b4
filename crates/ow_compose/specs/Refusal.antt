-- Which components can't be called, and what follows.
use Rattle.std.specs.Prelude.{◌&&◌, ℕ, Bool, false, List, [], ◌∷◌, codes, is_some, not, nat_lt, if◌then◌else◌, option_and_then, Option, Some, None, Result, Ok, Err}
use Rattle.std.specs.Option.{option_or}
use Rattle.std.specs.Result.{result_ok}
use Rattle.ow_value.specs.Value.{Pairs, text}
use Rattle.ow_value.specs.Find.{merge}
use Rattle.ow_names.specs.Path.{resolved}
use Rattle.ow_names.specs.declared.full.FullName.{FullName}
use Rattle.ow_entity.specs.Annotations.{is_conductor}
use Rattle.ow_entity.specs.Exec.{is_sequence}
use Rattle.ow_entity.specs.declared.actions.Action.{Action}
use Rattle.ow_packages.specs.Access.{Standing}
use Rattle.ow_packages.specs.Effective.{effective}
use Rattle.ow_packages.specs.Fixed.{first_fixed}
use Rattle.ow_packages.specs.declared.effective_action.Effective.{Effective}
use Rattle.ow_records.specs.Form.{is_composite}
use Rattle.ow_records.specs.Outcome.{failure}
use Rattle.ow_records.specs.Response.{ResponseView}
use Rattle.ow_records.specs.declared.forms.Form.{Form}
use Rattle.ow_records.specs.declared.forms.Form.TheVariants.{Leaf, Sequence, Conductor}
use Rattle.ow_records.specs.declared.frames.Used.{Used}
use Rattle.ow_compose.specs.Conductor.{run_or_end, state_of}
use Rattle.ow_compose.specs.Step.{fitting}
use Rattle.ow_compose.specs.declared.bounds.TheConstants.{MOST_COMPONENTS, MOST_DEPTH}
use Rattle.ow_compose.specs.declared.refusals.Untold.{Untold}
use Rattle.ow_compose.specs.declared.refusals.Untold.TheVariants.{Missing, Fixed, Components, Depth, Bytes}
use Rattle.ow_compose.specs.declared.steps.Step.{Step}
use Rattle.ow_compose.specs.declared.steps.Step.TheVariants.{Done}

-- what an action does when it is called
abbrev pub form_of : Action → Form
form_of a = if is_sequence a.exec then Sequence else if is_conductor a then Conductor else Leaf

-- what a component's text calls: from the activation's namespace, or else from that of the composite action
abbrev pub component_of : Standing → List ℕ → List ℕ → Option FullName → Option Effective
component_of standing from home name = option_and_then (λ n. option_or (effective standing n from) (effective standing n home)) name

abbrev pub find_component : Standing → List ℕ → List ℕ → List ℕ → Option Effective
find_component standing written from home = component_of standing from home (result_ok (resolved from written))

abbrev pub fitting_or : Option Pairs → Result Pairs Untold
fitting_or None = Err Bytes
fitting_or (Some ps) = Ok ps

-- a composite that would be nested too deep below one of this depth
abbrev pub is_too_deep : Effective → ℕ → Bool
is_too_deep e depth = is_composite (form_of e.action) && not (nat_lt depth MOST_DEPTH)

-- the component's parameters, with what is given over them, or the first refusal
abbrev pub check_component : Effective → Pairs → Used → ℕ → Result Pairs Untold
check_component e given used depth =
    if is_some (first_fixed e given false) then Err Fixed
    else if not (nat_lt used.components MOST_COMPONENTS) then Err Components
    else if is_too_deep e depth then Err Depth
    else fitting_or (fitting e.params given)

-- ---- what follows

abbrev pub untold_text : Untold → List ℕ
untold_text Missing = codes "The component does not exist."
untold_text Fixed = codes "The component overrides a fixed parameter."
untold_text Components = codes "The composition has too many components."
untold_text Depth = codes "The composition is nested too deep."
untold_text Bytes = codes "The parameters have too many bytes."

-- the object that reports an error
abbrev pub error_object : List ℕ → Pairs
error_object message = (codes "error", text message) ∷ []

-- a refused component ends a sequence; a conductor runs its code with the error, and the state over it
abbrev pub refused : Form → Pairs → Used → Option ResponseView → Untold → Step
refused Leaf own used conducted why = Done (failure 1 (untold_text why))
refused Sequence own used conducted why = Done (failure 1 (untold_text why))
refused Conductor own used conducted why = run_or_end own used (merge (error_object (untold_text why)) (state_of conducted))
