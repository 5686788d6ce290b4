-- What reads are answered, from what the caller may see: the first refusal, in the order of their places from the grant on, or what is
-- shown.
use Rattle.std.specs.Prelude.{◌&&◌, ◌||◌, ℕ, List, [], Bool, false, find, map, not, is_some, if◌then◌else◌, option_and_then, option_map, Option, Some, None, Result, Ok, Err}
use Rattle.std.specs.Result.{result_ok}
use Rattle.ow_value.specs.Value.{V, list, items_of}
use Rattle.ow_value.specs.Text.{compact}
use Rattle.ow_value.specs.View.{view}
use Rattle.ow_value.specs.declared.val.Val.{Val}
use Rattle.ow_names.specs.Path.{home, named_in}
use Rattle.ow_names.specs.declared.full.FullName.{FullName}
use Rattle.ow_entity.specs.declared.kinds.EntityKind.{EntityKind}
use Rattle.ow_entity.specs.declared.kinds.EntityKind.TheVariants as kinds
use Rattle.ow_entity.specs.declared.rows.Row.{Row as Entity}
use Rattle.ow_entity.specs.declared.rows.Row.TheVariants as entities
use Rattle.ow_packages.specs.Access.{is_shared, package_at, package_of}
use Rattle.ow_packages.specs.Effective.{effective}
use Rattle.ow_records.specs.Id.{same_id}
use Rattle.ow_records.specs.Records.{is_in, listing as records_listing}
use Rattle.ow_records.specs.Written.{logs_value, record_value, response_value}
use Rattle.ow_records.specs.declared.ids.Id.{Id}
use Rattle.ow_records.specs.declared.record.Record.{Record}
use Rattle.ow_tables.specs.Rows.{found, listing, standing}
use Rattle.ow_http.specs.CallOf.{call_of, package_for}
use Rattle.ow_http.specs.Parts.{Parts}
use Rattle.ow_http.specs.Refused.{refusal_of}
use Rattle.ow_http.specs.Steps.{◌>>=◌}
use Rattle.ow_http.specs.declared.answer.Answer.{Answer}
use Rattle.ow_http.specs.declared.call.Call.{Call}
use Rattle.ow_http.specs.declared.call_refusal.CallRefusal.{CallRefusal}
use Rattle.ow_http.specs.declared.reason.Reason.{Reason}
use Rattle.ow_http.specs.declared.reason.Reason.TheVariants as reasons
use Rattle.ow_http.specs.declared.route.Part.{Part}
use Rattle.ow_http.specs.declared.route.Part.TheVariants.{Whole, Response, Logs}
use Rattle.ow_http.specs.declared.route.Route.{Route}
use Rattle.ow_http.specs.declared.route.Route.TheVariants as route
use Rattle.ow_reads.specs.declared.acts.Reading.{Reading}
use Rattle.ow_reads.specs.declared.acts.Reading.TheVariants.{Namespaces, Rows, Row, Activations, Activation}
use Rattle.ow_records.specs.LowerId.{id_of_lower}
use Rattle.ow_reads.specs.Reasons.{no_route, not_found, not_granted}
use Rattle.ow_reads.specs.Shown.{shown_row}
use Rattle.ow_tenant.specs.Tenants.{name_value}
use Rattle.ow_reads.specs.Steps.{or_else, unless}
use Rattle.ow_reads.specs.View.{View, may_read}

-- ---- of every request

-- the namespace of a path
abbrev pub namespace_of : Route → List ℕ
namespace_of (route.List namespace kind) = namespace
namespace_of (route.Entity namespace kind inside name) = namespace
namespace_of (route.Activations namespace) = namespace
namespace_of (route.Activation namespace id part) = namespace
namespace_of other = []

-- the id that a path writes
abbrev pub id_of : Route → List ℕ
id_of (route.Activation namespace id part) = id
id_of other = []

abbrev pub or_call_reason : Result Call CallRefusal → Result Call Reason
or_call_reason (Ok call) = Ok call
or_call_reason (Err e) = Err (reasons.Call e)

-- the entity that is named
abbrev pub name_in : Call → Result FullName Reason
name_in c = or_else c.name no_route

-- ---- shared packages

-- the package of a path's entity: of an action the one in which it lies
abbrev pub entity_package : List ℕ → List ℕ → Option (List ℕ) → List ℕ → EntityKind → Option FullName
entity_package here namespace inside name kinds.Action = option_and_then (λ p. result_ok (named_in here namespace None p)) inside
entity_package here namespace inside name kinds.Package = result_ok (named_in here namespace inside name)
entity_package here namespace inside name kind = None

abbrev pub path_package : List ℕ → Route → EntityKind → Option FullName
path_package here (route.Entity namespace kind inside name) wanted = entity_package here namespace (package_for kind inside) name wanted
path_package here other wanted = None

abbrev pub is_shared_at : List Entity → Option FullName → Bool
is_shared_at rs None = false
is_shared_at rs (Some name) = is_shared (package_at (standing rs) name)

-- what is wanted of an entity of this kind is granted where its package is shared, in whatever namespace the package lies
abbrev pub is_opened : List ℕ → List Entity → Route → Option EntityKind → Bool
is_opened here rs r None = false
is_opened here rs r (Some kind) = is_shared_at rs (path_package here r kind)

-- the kind of the entity that is read alone
abbrev pub read_kind : Reading → Option EntityKind
read_kind (Row kind) = Some kind
read_kind reading = None

-- ---- what is wanted, or why it isn't there

-- the namespace that is read, `_` being the key's own
abbrev pub read_namespace : View → Parts → List ℕ
read_namespace W p = home W.home (namespace_of p.route)

-- the list of namespaces is granted to each key
abbrev pub read_grant : View → Reading → Parts → Result (Unit {0}) Reason
read_grant W Namespaces p = Ok tt
read_grant W reading p = unless (not (may_read W.rights (read_namespace W p) || is_opened W.home W.rows p.route (read_kind reading))) not_granted

-- query and names of the path
abbrev pub read_call : View → Reading → Parts → Result Call Reason
read_call W reading p = do
  grant ← read_grant W reading p
  or_call_reason (call_of W.home p)

-- ---- rows

-- the package that is bound by the one of this name
abbrev pub target_of : List Entity → Option FullName → Option FullName
target_of rs None = None
target_of rs (Some name) = option_and_then (λ p. p.binding) (package_at (standing rs) name)

-- the action of the name, as its own namespace calls it
abbrev pub action_behind : List Entity → FullName → Option Entity
action_behind rs name = option_map (λ e. entities.Action e.action) (effective (standing rs) name name.namespace)

-- the action of the name: in a binding the one that the name calls, and elsewhere the stored one of that name
abbrev pub action_read : List Entity → FullName → Option Entity
action_read rs name = if is_some (target_of rs (package_of name)) then action_behind rs name else found kinds.Action name rs

-- the row of the name
abbrev pub row_read : List Entity → EntityKind → FullName → Option Entity
row_read rs kinds.Action name = action_read rs name
row_read rs kind name = found kind name rs

-- ---- records

-- the record of this id, charged to the namespace
abbrev pub is_recorded : List ℕ → Id → Record → Bool
is_recorded namespace id r = is_in namespace r && same_id r.id id

abbrev pub recorded_under : List ℕ → Option Id → List Record → Option Record
recorded_under namespace None rs = None
recorded_under namespace (Some id) rs = find (is_recorded namespace id) rs

-- the record of the namespace whose id the text is
abbrev pub recorded : List ℕ → List ℕ → List Record → Option Record
recorded namespace text rs = recorded_under namespace (id_of_lower text) rs

abbrev pub part_value : Part → Record → V
part_value Whole r = record_value r
part_value Response r = response_value r.response
part_value Logs r = logs_value r

-- ---- what is shown

abbrev pub read_value : View → Reading → Parts → Call → Result V Reason
read_value W Namespaces p c = Ok (list (items_of (map name_value W.rights)))
read_value W (Rows kind) p c = Ok (list (items_of (listing kind (read_namespace W p) c.skip c.limit W.rows)))
read_value W (Row kind) p c = do
  name ← name_in c
  row ← or_else (row_read W.rows kind name) not_found
  Ok (shown_row W.rows row)
read_value W Activations p c = Ok (list (items_of (records_listing (read_namespace W p) c.skip c.limit W.records)))
read_value W (Activation part) p c = do
  r ← or_else (recorded (read_namespace W p) (id_of p.route) W.records) not_found
  Ok (part_value part r)

abbrev pub read_done : View → Reading → Parts → Result V Reason
read_done W reading p = do
  call ← read_call W reading p
  read_value W reading p call

-- what a read shows, as the code has it
abbrev pub shown_of : Result Val Reason → Result V Reason
shown_of (Ok value) = Ok (view value)
shown_of (Err reason) = Err reason

-- ---- the answer

-- the answer that shows a value
abbrev pub good : V → Answer
good v = record { status = 200; headers = []; body = compact v }

abbrev pub answer_of : Result V Reason → Answer
answer_of (Ok value) = good value
answer_of (Err reason) = refusal_of reason

-- what a read is answered
abbrev pub read_answer : View → Reading → Parts → Answer
read_answer W reading p = answer_of (read_done W reading p)
