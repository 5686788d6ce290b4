-- A decision is a chain of items: each may be decided on what is seen, after those before it.
use Rattle.std.specs.Prelude.{◌≡◌, ◌≤◌, ◌⊎◌, ◌++◌, ℕ, true, List, [], ◌∷◌, IfSome, Option, Some, None, Ok}
use Rattle.ow_names.specs.declared.full.FullName.{FullName}
use Rattle.ow_entity.specs.declared.kinds.EntityKind.TheVariants as kinds
use Rattle.ow_entity.specs.declared.rows.Row.{Row}
use Rattle.ow_entity.specs.declared.rows.Row.TheVariants as rows
use Rattle.ow_entity.specs.declared.triggers.Trigger.{Trigger}
use Rattle.ow_value.specs.Find.{merge}
use Rattle.ow_value.specs.Nesting.{most_nested}
use Rattle.ow_value.specs.Value.{Pairs, depth, members_of, object}
use Rattle.ow_http.specs.CallOf.{call_of}
use Rattle.ow_http.specs.Parts.{Parts}
use Rattle.ow_http.specs.declared.call.Call.{Call}
use Rattle.ow_packages.specs.Effective.{effective}
use Rattle.ow_packages.specs.declared.effective_action.Effective.{Effective}
use Rattle.ow_tables.specs.Rows.{found, standing}
use Rattle.ow_records.specs.Fire.{trigger_record}
use Rattle.ow_records.specs.declared.fires.Fire.{Fire}
use Rattle.ow_records.specs.declared.record.Record.{Record}
use Rattle.ow_records.specs.declared.activations.Activation.{Activation}
use Rattle.ow_records.specs.declared.outcomes.Ending.{Ending}
use Rattle.ow_records.specs.declared.outcomes.Ending.TheVariants.{Abandoned, Overran, Replied}
use Rattle.ow_floor.specs.Calls.{IsNext, is_late}
use Rattle.ow_floor.specs.Growth.{IsRight}
use Rattle.ow_floor.specs.Laws.{IsSound}
use Rattle.ow_floor.specs.Trace.{Accepted, Drawn, End, Ended, Fired, Item, Ordered, Resumed, Trace, live, moment_of, shown}
use Rattle.ow_floor.specs.declared.runs.Run.{Run}
use Rattle.ow_tenant.specs.Tenants.{limits_of}
use Rattle.ow_counts.specs.Counts.{admitted, fire_admitted}
use Rattle.ow_compose.specs.Refusal.{form_of}
use Rattle.ow_trees.specs.Driven.{IsDriven}
use Rattle.ow_decide.specs.Sight.{Sight}

-- ---- what is accepted

-- some name calls this
abbrev pub IsCallee : List Row → Effective → Type 0
IsCallee rs e = (name : FullName) × ((namespace : List ℕ) × (effective (standing rs) name namespace ≡ Some e))

-- some name calls the action of the activation, through its binding
pub record IsCalled (rs : List Row) (a : Activation) : Type 0 where
  pub called : Effective
  pub callee : IsCallee rs called
  pub action : a.action ≡ called.action
  pub binding : a.binding ≡ called.binding
  pub form : a.form ≡ form_of called.action

-- no other activation caused it, its id is the next of its namespace, the limits admit it, and some name calls it
pub record IsAccepted (S : Sight) (a : Activation) (T : Trace) : Type 0 where
  pub uncaused : a.cause ≡ None
  pub next : IsNext a.id T
  pub admitted : admitted T a.namespace (limits_of a.namespace S.tenants) S.moment ≡ Ok tt
  pub callee : IsCalled S.rows a

-- ---- what ends

-- one of these runs
abbrev pub IsOneOf : Run → List Run → Type 0
IsOneOf r [] = ⊥
IsOneOf r (x ∷ xs) = (r ≡ x) ⊎ IsOneOf r xs

-- a run's reply ends it, or a sweep, since its run is late, or a reopening, with no run
abbrev pub IsEndBy : ℕ → Ending → Option Run → Activation → Type 0
IsEndBy at (Replied reply) (Some r) task = Unit {0}
IsEndBy at Overran (Some r) task = is_late at r task ≡ true
IsEndBy at Abandoned None task = Unit {0}
IsEndBy at ending run task = ⊥

-- and the run was live when the event came
pub record IsEnd (S : Sight) (e : End) : Type 0 where
  pub by : IsEndBy S.moment e.ending e.run e.task
  pub live : IfSome e.run (λ r. IsOneOf r (live S.trace))

-- ---- fires

-- parameters are those of the body of some call, or nest no deeper than a body may
abbrev pub IsOfCall : Pairs → Type 0
IsOfCall given = (home : List ℕ) × ((parts : Parts) × ((call : Call) × ((call_of home parts ≡ Ok call) × (given ≡ call.params))))

abbrev pub IsGivenFor : Pairs → Type 0
IsGivenFor given = IsOfCall given ⊎ (depth (object (members_of given)) ≤ most_nested)

-- there is a trigger of this name. The fire has its name, its namespace and its version, and its parameters merged with those that are given
pub record IsShot (S : Sight) (f : Fire) : Type 0 where
  pub name : FullName
  pub trigger : Trigger
  pub row : found kinds.Trigger name S.rows ≡ Some (rows.Trigger trigger)
  pub given : Pairs
  pub source : IsGivenFor given
  pub called_so : f.name ≡ name.name
  pub home_is : f.namespace ≡ name.namespace
  pub at : f.at ≡ S.moment
  pub version : f.version ≡ trigger.version
  pub params : f.params ≡ merge trigger.params given

-- it is the record of the fire of a trigger, under an id that was drawn, and the limit of fires allows it
pub record IsFired (S : Sight) (r : Record) (T : Trace) : Type 0 where
  pub admitted : fire_admitted T r.namespace (limits_of r.namespace S.tenants) S.moment ≡ Ok tt
  pub counted : 1 ≤ r.id.count
  pub fire : Fire
  pub lines : List (List ℕ)
  pub made : r ≡ trigger_record fire lines
  pub shot : IsShot S fire

-- ---- each item

-- why an item may be decided after these: an acceptance or an end may also be the step that a composite owes. An opening, which takes over
-- records of an earlier run, is apart
abbrev pub IsDecided : Sight → Item → Trace → Type 0
IsDecided S (Accepted a) T = IsAccepted S a T ⊎ IsDriven (standing S.rows) S.moment (Accepted a) T
IsDecided S (Ended e) T = IsEnd S e ⊎ IsDriven (standing S.rows) S.moment (Ended e) T
IsDecided S (Ordered r key) T = r.begun ≡ None
IsDecided S (Resumed counts rs) T = ⊥
IsDecided S (Drawn id at) T = IsNext id T
IsDecided S (Fired r) T = IsFired S r T
IsDecided S item T = Unit {0}

-- it is of the moment, it may be decided, and a floor may take it
pub record IsStep (S : Sight) (item : Item) (T : Trace) : Type 0 where
  pub at : moment_of item ≡ S.moment
  pub is : IsDecided S item T
  pub right : IsSound S.trace → IsRight item (shown T)

-- each may be decided after those before it
abbrev pub AreSteps : Sight → Trace → Type 0
AreSteps S [] = Unit {0}
AreSteps S (item ∷ items) = IsStep S item (items ++ S.trace) × AreSteps S items
