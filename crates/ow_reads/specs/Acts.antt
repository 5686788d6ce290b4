-- What a request is to do, where that is served yet, and whether it is granted.
use Rattle.std.specs.Prelude.{◌||◌, List, not, Option, Some, None, Result, Ok}
use Rattle.ow_entity.specs.declared.kinds.EntityKind.{EntityKind}
use Rattle.ow_entity.specs.declared.kinds.EntityKind.TheVariants as kinds
use Rattle.ow_entity.specs.declared.rows.Row.{Row}
use Rattle.ow_http.specs.CallKind.{kind_of}
use Rattle.ow_http.specs.CallOf.{call_of}
use Rattle.ow_http.specs.Parts.{Parts}
use Rattle.ow_http.specs.Steps.{◌>>=◌}
use Rattle.ow_http.specs.declared.call.Call.{Call}
use Rattle.ow_http.specs.declared.call_kind.CallKind.{CallKind}
use Rattle.ow_http.specs.declared.call_kind.CallKind.TheVariants.{ListNamespaces, ListEntities, GetEntity, PutEntity, DeleteEntity, Invoke, Fire, SetRule, ListActivations, GetActivation}
use Rattle.ow_http.specs.declared.reason.Reason.{Reason}
use Rattle.ow_http.specs.declared.route.Route.{Route}
use Rattle.ow_http.specs.declared.verb.Verb.{Verb}
use Rattle.ow_tenant.specs.declared.entries.Holder.{Holder}
use Rattle.ow_tenant.specs.declared.rights.Right.{Right}
use Rattle.ow_tenant.specs.declared.rights.Right.TheVariants.{Read, Write, Invoke as InvokeRight}
use Rattle.ow_reads.specs.declared.acts.Act.{Act}
use Rattle.ow_reads.specs.declared.acts.Act.TheVariants.{Reads, Puts, Removes, Invokes, Fires, Sets}
use Rattle.ow_reads.specs.declared.acts.Reading.{Reading}
use Rattle.ow_reads.specs.declared.acts.Reading.TheVariants.{Namespaces, Rows, Row as OneRow, Activations, Activation}
use Rattle.ow_reads.specs.Reading.{is_opened, namespace_of, or_call_reason, read_kind}
use Rattle.ow_reads.specs.Reasons.{not_granted}
use Rattle.ow_reads.specs.Steps.{unless}
use Rattle.ow_reads.specs.Tenants.{may}

-- what a call of this kind reads, where it is served yet
abbrev pub reading_in : CallKind → Option Reading
reading_in (ListEntities kind) = Some (Rows kind)
reading_in (GetEntity kind) = Some (OneRow kind)
reading_in ListNamespaces = Some Namespaces
reading_in ListActivations = Some Activations
reading_in (GetActivation part) = Some (Activation part)
reading_in kind = None

-- what it is to do: entities are put and deleted, actions invoked, triggers fired, and rules set
abbrev pub change_in : CallKind → Option Act
change_in (PutEntity kind) = Some Puts
change_in (DeleteEntity kind) = Some (Removes kind)
change_in Invoke = Some Invokes
change_in Fire = Some Fires
change_in SetRule = Some Sets
change_in kind = None

abbrev pub reads_or : Option Reading → Option Act → Option Act
reads_or None act = act
reads_or (Some reading) act = Some (Reads reading)

abbrev pub act_in : CallKind → Option Act
act_in kind = reads_or (reading_in kind) (change_in kind)

abbrev pub act_of : Route → Verb → Option Act
act_of r method = act_in (kind_of r method)

-- ---- what is granted

-- the kind of the entity that is shown alone or invoked; no shared package grants a fire
abbrev pub opened_kind : Act → Option EntityKind
opened_kind (Reads reading) = read_kind reading
opened_kind Invokes = Some kinds.Action
opened_kind act = None

-- the right that is wanted in the namespace of the path
abbrev pub right_for : Act → Right
right_for (Reads reading) = Read
right_for Puts = Write
right_for (Removes kind) = Write
right_for Invokes = InvokeRight
right_for Fires = InvokeRight
right_for Sets = Write

-- the caller has that right, or a shared package grants what is wanted; the list of namespaces is granted to each key. A read's answer
-- rests on `Reading.read_grant`, over what may be seen, which grants the same: these cases are for private clauses
abbrev pub grant_for : Holder → List Row → Act → Parts → Result (Unit {0}) Reason
grant_for h rs (Reads Namespaces) p = Ok tt
grant_for h rs act p = unless (not (may h (right_for act) (namespace_of p.route) || is_opened h.home rs p.route (opened_kind act))) not_granted

-- query, names of the path and body
abbrev pub call_for : Holder → Parts → Result Call Reason
call_for h p = or_call_reason (call_of h.home p)

-- the call, where it is granted
abbrev pub granted_call : Holder → List Row → Act → Parts → Result Call Reason
granted_call h rs act p = do
  grant ← grant_for h rs act p
  call_for h p
