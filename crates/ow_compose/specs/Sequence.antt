-- The steps of a sequence: each component gets what the one before answered, up to the first that fails.
use Rattle.std.specs.Prelude.{◌==◌, ℕ, zero, suc, List, length, slice_get, if◌then◌else◌, option_map, Option, Some, None}
use Rattle.ow_value.specs.Value.{Pairs}
use Rattle.ow_names.specs.FullName.{full_text}
use Rattle.ow_names.specs.declared.full.FullName.{FullName}
use Rattle.ow_records.specs.Response.{ResponseView}
use Rattle.ow_records.specs.declared.frames.Frame.{Frame}
use Rattle.ow_records.specs.declared.frames.Heard.{Heard}
use Rattle.ow_compose.specs.Step.{last_of}
use Rattle.ow_compose.specs.declared.steps.Step.{Step}
use Rattle.ow_compose.specs.declared.steps.Step.TheVariants.{Named, Done}

-- the component is called with these
abbrev pub call_of : FullName → Pairs → Step
call_of name params = Named (full_text name) params

-- the first component gets the sequence's parameters
abbrev pub first_call : Option FullName → Pairs → Option Step
first_call None params = None
first_call (Some name) params = Some (call_of name params)

-- the next component gets what the last child answered; after the last component that is the sequence's own answer
abbrev pub call_or_done : Option FullName → ResponseView → Step
call_or_done None r = Done r
call_or_done (Some name) r = call_of name r.result

-- after a child that succeeded the next component is called; else the sequence answers what the child did
abbrev pub after_child : Option FullName → ResponseView → Step
after_child next r = if r.code == 0 then call_or_done next r else Done r

-- what a sequence with this many children owes, once the last of them answered this; nothing while the last is open
abbrev pub seq_step : List FullName → Pairs → ℕ → Option ResponseView → Option Step
seq_step components params zero r = first_call (slice_get components 0) params
seq_step components params (suc n) None = None
seq_step components params (suc n) (Some r) = Some (after_child (slice_get components (suc n)) r)

-- what a sequence owes once all its children have ended
abbrev pub seq_step_over : List FullName → Pairs → List Heard → Option Step
seq_step_over components params children = seq_step components params (length children) (option_map (λ h. h.response) (last_of children))

-- what a sequence of this frame owes
abbrev pub seq_step_of : List FullName → Pairs → Frame → Option Step
seq_step_of components params f = seq_step components params (length f.children) (option_map (λ h. h.response) f.last)
