-- The steps of a conductor: its own code runs, and names a component or ends the composition; after a component it runs again.
use Rattle.std.specs.Prelude.{◌==◌, ℕ, zero, suc, Bool, true, false, List, [], ◌∷◌, codes, filter, length, nat_lt, if◌then◌else◌, option_map, option_and_then, Option, Some, None}
use Rattle.ow_value.specs.Value.{V, Pairs, null, text}
use Rattle.ow_value.specs.Find.{find, merge}
use Rattle.ow_records.specs.FieldsIn.{as_object}
use Rattle.ow_records.specs.Outcome.{failure, of_object}
use Rattle.ow_records.specs.Response.{ResponseView}
use Rattle.ow_records.specs.declared.forms.Role.{Role}
use Rattle.ow_records.specs.declared.forms.Role.TheVariants.{Alone, Component, Run}
use Rattle.ow_records.specs.declared.frames.Frame.{Frame}
use Rattle.ow_records.specs.declared.frames.Heard.{Heard}
use Rattle.ow_records.specs.declared.frames.Used.{Used}
use Rattle.ow_compose.specs.Step.{fitting, last_of}
use Rattle.ow_compose.specs.declared.bounds.TheConstants.{MOST_RUNS}
use Rattle.ow_compose.specs.declared.steps.Step.{Step}
use Rattle.ow_compose.specs.declared.steps.Step.TheVariants.{Named, Conductor, Done}

-- ---- of what a run of the code answered

-- a value that is not null
abbrev pub unless_null : Option V → Option V
unless_null None = None
unless_null (Some null) = None
unless_null (Some v) = Some v

abbrev pub or_empty : Option Pairs → Pairs
or_empty None = []
or_empty (Some ps) = ps

abbrev pub boxed_by : V → Option Pairs → Pairs
boxed_by v None = (codes "value", v) ∷ []
boxed_by v (Some ps) = ps

-- the members of an object; another value becomes the member `value` of one
abbrev pub boxed : V → Pairs
boxed v = boxed_by v (as_object v)

-- what the code answers under a name, where that is not null
abbrev pub answered : List ℕ → ResponseView → Option V
answered name r = unless_null (find name r.result)

-- a text; another value is as an empty one, which is no name
abbrev pub text_or_empty : V → List ℕ
text_or_empty (text s) = s
text_or_empty v = []

-- the parameters for the component: none where there are no `params`
abbrev pub handed : Option V → Pairs
handed None = []
handed (Some v) = boxed v

-- the result of the composition: all that the code answers where there are no `params`
abbrev pub final_result : Pairs → Option V → Pairs
final_result whole None = whole
final_result whole (Some v) = boxed v

-- the `state`, where it is an object; it is kept for the next run
abbrev pub state_of : Option ResponseView → Pairs
state_of None = []
state_of (Some r) = or_empty (option_and_then as_object (find (codes "state") r.result))

-- ---- steps

-- the code names a component in `action`, or else the composition ends
abbrev pub after_answer : Option V → Option V → ResponseView → Step
after_answer None params r = Done (of_object (final_result r.result params))
after_answer (Some action) params r = Named (text_or_empty action) (handed params)

-- a run that failed ends the composition
abbrev pub after_run : ResponseView → Step
after_run r = if r.code == 0 then after_answer (answered (codes "action") r) (answered (codes "params") r) r else Done r

abbrev pub run_with : Option Pairs → Step
run_with None = Done (failure 1 (codes "The parameters have too many bytes."))
run_with (Some params) = Conductor params

-- the code runs with the input over the conductor's own parameters, unless the runs are used up or these have too many bytes
abbrev pub run_or_end : Pairs → Used → Pairs → Step
run_or_end own used input =
    if nat_lt used.conductors MOST_RUNS then run_with (fitting own input) else Done (failure 1 (codes "The composition has too many conductor runs."))

-- after a component the code runs with its result, and the state over it
abbrev pub after_part : Pairs → Used → Option ResponseView → Role → ResponseView → Step
after_part own used conducted Run r = after_run r
after_part own used conducted Component r = run_or_end own used (merge r.result (state_of conducted))
after_part own used conducted Alone r = run_or_end own used (merge r.result (state_of conducted))

-- what a conductor with this many children owes, by what its code answered last and how its last child ended; nothing while that is open
abbrev pub conduct_step : Pairs → Pairs → Used → ℕ → Option Heard → Option ResponseView → Option Step
conduct_step own params used zero last conducted = Some (run_or_end own used params)
conduct_step own params used (suc n) None conducted = None
conduct_step own params used (suc n) (Some h) conducted = Some (after_part own used conducted h.role h.response)

abbrev pub is_run : Heard → Bool
is_run h = is_run_role h.role
  where
    is_run_role : Role → Bool
    is_run_role Run = true
    is_run_role role = false

-- what the code answered last
abbrev pub last_run : List Heard → Option ResponseView
last_run children = option_map (λ h. h.response) (last_of (filter is_run children))

-- what a conductor owes once all its children have ended
abbrev pub conduct_step_over : Pairs → Pairs → Used → List Heard → Option Step
conduct_step_over own params used children = conduct_step own params used (length children) (last_of children) (last_run children)

-- what a conductor of this frame owes
abbrev pub conduct_step_of : Pairs → Pairs → Used → Frame → Option Step
conduct_step_of own params used f = conduct_step own params used (length f.children) f.last f.conducted
