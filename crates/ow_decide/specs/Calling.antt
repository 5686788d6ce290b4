-- Invocations of actions: by requests, and the office's own.
use Rattle.std.specs.Prelude.{◌+◌, ℕ, nat_lt, min, List, Bool, true, false, if◌then◌else◌, Option, Some, None, Result, Ok, Err}
use Rattle.ow_value.specs.Value.{Pairs}
use Rattle.ow_value.specs.Size.{megabyte}
use Rattle.ow_value.specs.declared.val.Val.{Val}
use Rattle.ow_value.specs.declared.val.Val.TheVariants.{Object}
use Rattle.ow_value.specs.Find.{merge}
use Rattle.ow_names.specs.declared.full.FullName.{FullName}
use Rattle.ow_entity.specs.Pairs.{pairs_size}
use Rattle.ow_entity.specs.declared.actions.Action.{Action}
use Rattle.ow_entity.specs.declared.rows.Row.{Row}
use Rattle.ow_packages.specs.Effective.{effective}
use Rattle.ow_packages.specs.Fixed.{first_fixed}
use Rattle.ow_packages.specs.declared.effective_action.Effective.{Effective}
use Rattle.ow_tables.specs.Rows.{standing}
use Rattle.ow_records.specs.declared.ids.Id.{Id}
use Rattle.ow_floor.specs.Trace.{Trace, last}
use Rattle.ow_floor.specs.Calls.{accept_items, happened}
use Rattle.ow_floor.specs.declared.activations.Plan.{Plan}
use Rattle.ow_http.specs.Steps.{◌>>=◌}
use Rattle.ow_http.specs.declared.reason.Reason.{Reason}
use Rattle.ow_http.specs.declared.reason.Reason.TheVariants.{Fixed}
use Rattle.ow_decide.specs.declared.events.Told.TheVariants as told
use Rattle.ow_decide.specs.declared.replies.Called.TheVariants as called
use Rattle.ow_tenant.specs.Table.{Table}
use Rattle.ow_tenant.specs.Rights.{has_right}
use Rattle.ow_tenant.specs.Tenants.{number_of, rights_in}
use Rattle.ow_records.specs.Form.{is_composite}
use Rattle.ow_records.specs.declared.forms.Form.{Form}
use Rattle.ow_compose.specs.Refusal.{form_of}
use Rattle.ow_trees.specs.Steps.{steps_after}
use Rattle.ow_records.specs.declared.forms.Role.TheVariants as roles
use Rattle.ow_tenant.specs.declared.entries.Holder.{Holder}
use Rattle.ow_tenant.specs.declared.rights.Right.TheVariants.{Invoke}
use Rattle.ow_decide.specs.declared.call_steps.Callee.{Callee}
use Rattle.ow_reads.specs.Tenants.{office}
use Rattle.ow_reads.specs.Steps.{or_else}
use Rattle.ow_reads.specs.Reasons.{not_found}
use Rattle.ow_decide.specs.Reasons.{too_large}
use Rattle.ow_decide.specs.Sight.{Sight, room_for, store_room, takes_calls, within_limits}
use Rattle.ow_decide.specs.Decision.{Decision, adds, items_changes, tells}

-- ---- what is wanted, or why it isn't there

-- which namespace is charged for an invocation: the caller's own where it may not invoke in that of the action
abbrev pub charged_namespace : Holder → FullName → List ℕ
charged_namespace h name = if has_right Invoke (rights_in name.namespace h) then name.namespace else h.home

-- the number of the namespace that is charged, and what is called, where both are there
abbrev pub callee_of : Option ℕ → Option Effective → Option Callee
callee_of (Some n) (Some e) = Some (record { number = n; effective = e })
callee_of number called = None

-- what the name calls for a caller in a namespace, which has a number
abbrev pub callee_in : Table → List Row → FullName → List ℕ → Option Callee
callee_in t rs name namespace = callee_of (number_of namespace t) (effective (standing rs) name namespace)

abbrev pub callee : Sight → FullName → List ℕ → Result Callee Reason
callee S name namespace = or_else (callee_in S.tenants S.rows name namespace) not_found

-- the parameters have more than 1 MB as an object
unfoldable pub is_oversized : Pairs → Bool
is_oversized ps = nat_lt megabyte (pairs_size ps)

-- the merged parameters, where they have not too many bytes: a given parameter replaces that of the action
abbrev pub fitting : Pairs → Pairs → Option Pairs
fitting own given = if is_oversized (merge own given) then None else Some (merge own given)

abbrev pub unless_fixed : Option (List ℕ) → Result (Unit {0}) Reason
unless_fixed None = Ok tt
unless_fixed (Some name) = Err (Fixed name)

-- the given parameters merged over those of what is called: no given parameter is fixed, and the merged ones have not too many bytes. A
-- web request gives none that already has a value
abbrev pub given_over : Effective → Pairs → Bool → Result Pairs Reason
given_over e given web = do
  free ← unless_fixed (first_fixed e given web)
  or_else (fitting e.params given) too_large

-- ---- what is planned

-- the next id of a namespace
abbrev pub next_id : Sight → ℕ → Id
next_id S number = record { namespace = number; count = last S.trace number + 1 }

-- the moment until which a blocking invocation waits: after a minute, or after the action's time limit where that is less
abbrev pub until_of : ℕ → Bool → Action → Option ℕ
until_of at true action = Some (at + min 60000 action.limits.timeout)
until_of at false action = None

-- the depth of a first activation of this form in its composition
abbrev pub first_depth : Form → ℕ
first_depth form = if is_composite form then 1 else 0

-- what is to be accepted under an id: what is called, with merged parameters, charged to a namespace, in the name of a subject
abbrev pub plan_for : List ℕ → Option ℕ → Id → List ℕ → Effective → Pairs → Plan
plan_for subject until id namespace e params = record {
  id = id;
  namespace = namespace;
  effective = e;
  params = params;
  subject = subject;
  cause = None;
  until = until;
  form = form_of e.action;
  role = roles.Alone;
  top = id;
  depth = first_depth (form_of e.action);
}

abbrev pub merged_plan : Sight → List ℕ → List ℕ → Bool → Callee → Pairs → Result Plan Reason
merged_plan S subject namespace blocking c merged = do
  taken ← takes_calls S
  Ok (plan_for subject (until_of S.moment blocking c.effective.action) (next_id S c.number) namespace c.effective merged)

abbrev pub called_plan : Sight → List ℕ → List ℕ → Bool → Bool → Callee → Pairs → Result Plan Reason
called_plan S subject namespace blocking web c given = do
  merged ← given_over c.effective given web
  merged_plan S subject namespace blocking c merged

-- what is to be accepted, whose refusals are in the order of their places: what is called, the fixed parameters, the merged
-- parameters, and the drain
abbrev pub invocation_plan : Sight → List ℕ → List ℕ → Bool → FullName → Pairs → Result Plan Reason
invocation_plan S subject namespace blocking name given = do
  c ← callee S name namespace
  called_plan S subject namespace blocking false c given

-- what is to be accepted by a call of the office, in its own name: the namespace of the name is charged
abbrev pub call_plan : Sight → FullName → Pairs → Result Plan Reason
call_plan S name params = do
  room ← room_for S 0
  invocation_plan S office name.namespace false name params

-- ---- what is accepted, with the steps that it makes

-- the items of a plan: its acceptance, and the steps that a composite makes at once
abbrev pub plan_items : Sight → Plan → Trace
plan_items S plan = steps_after (standing S.rows) S.moment S.trace (accept_items S.moment plan)

-- where the store has room for all that is kept of them, and the limits allow the plan
abbrev pub admitted_plan : Sight → Plan → Result Plan Reason
admitted_plan S plan = do
  room ← store_room S (items_changes (plan_items S plan))
  within ← within_limits S plan.namespace
  Ok plan

-- what is done at a call whose plan was admitted, or refused
abbrev pub called_decision : Sight → Result Plan Reason → Decision
called_decision S (Ok plan) = adds (told.Called (called.Happened (happened (plan_items S plan)))) (plan_items S plan)
called_decision S (Err reason) = tells (told.Called (called.Refused reason))

-- what is done at a call
abbrev pub call_decision : Sight → Result Plan Reason → Decision
call_decision S planned = called_decision S (planned >>= admitted_plan S)

-- ---- for private clauses

-- the pairs of an object of the code
abbrev pub pairs_of : Val → Option Pairs
pairs_of (Object pairs) = Some pairs
pairs_of value = None
