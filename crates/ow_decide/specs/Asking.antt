-- What a request is answered: its first refusal, in the order of their places, or what it reads and changes.
use Rattle.std.specs.Prelude.{◌≡◌, ℕ, List, Bool, true, false, [], ◌∷◌, Option, Some, None, Result, Ok, Err, if◌then◌else◌}
use Rattle.ow_value.specs.Value.{V, Pairs}
use Rattle.ow_names.specs.declared.full.FullName.{FullName}
use Rattle.ow_entity.specs.Finish.{finished_row}
use Rattle.ow_entity.specs.declared.kinds.EntityKind.{EntityKind}
use Rattle.ow_entity.specs.declared.refusal.EntityRefusal.{EntityRefusal}
use Rattle.ow_entity.specs.declared.rows.Draft.{Draft}
use Rattle.ow_entity.specs.declared.rows.Row.{Row}
use Rattle.ow_entity.specs.declared.rows.Row.TheVariants as rows
use Rattle.ow_entity.specs.declared.rules.Rule.{Rule}
use Rattle.ow_entity.specs.declared.triggers.Trigger.{Trigger}
use Rattle.ow_records.specs.declared.fires.Fire.{Fire}
use Rattle.ow_records.specs.declared.ids.Id.{Id}
use Rattle.ow_rules.specs.Fired.{fired}
use Rattle.ow_rules.specs.Status.{status_change}
use Rattle.ow_tables.specs.Contents.{Change}
use Rattle.ow_tables.specs.Joined.{rule_at}
use Rattle.ow_tables.specs.Refusal.{table_refusal, old_row, put_refusal, remove_refusal}
use Rattle.ow_tables.specs.Rows.{found, standing, with_row}
use Rattle.ow_commits.specs.Commits.{row_changes}
use Rattle.ow_floor.specs.Trace.{Trace}
use Rattle.ow_floor.specs.declared.activations.Plan.{Plan}
use Rattle.ow_tables.specs.declared.refusal.TableRefusal.{TableRefusal}
use Rattle.ow_http.specs.Parts.{Parts}
use Rattle.ow_http.specs.Refused.{refusal_of}
use Rattle.ow_http.specs.Steps.{◌>>=◌}
use Rattle.ow_http.specs.declared.answer.Answer.{Answer}
use Rattle.ow_http.specs.declared.call.Call.{Call}
use Rattle.ow_http.specs.declared.reason.Reason.{Reason}
use Rattle.ow_web.specs.Target.{is_web}
use Rattle.ow_web.specs.declared.target.Extension.{Extension}
use Rattle.ow_reads.specs.Acts.{act_of, granted_call}
use Rattle.ow_reads.specs.declared.acts.Act.{Act}
use Rattle.ow_reads.specs.declared.acts.Act.TheVariants.{Reads, Puts, Removes, Invokes, Fires, Sets}
use Rattle.ow_reads.specs.declared.acts.Reading.{Reading}
use Rattle.ow_decide.specs.declared.call_steps.Callee.{Callee}
use Rattle.ow_decide.specs.declared.events.Told.{Told}
use Rattle.ow_decide.specs.declared.events.Told.TheVariants as told
use Rattle.ow_decide.specs.declared.replies.Reply.{Reply}
use Rattle.ow_decide.specs.declared.replies.Reply.TheVariants as replies
use Rattle.ow_decide.specs.declared.waits.Shows.{Shows}
use Rattle.ow_decide.specs.declared.waits.Shows.TheVariants.{Web}
use Rattle.ow_decide.specs.declared.waits.Waits.TheVariants.{Keep}
use Rattle.ow_tenant.specs.declared.entries.Holder.{Holder}
use Rattle.ow_tenant.specs.Tenants.{holder_of}
use Rattle.ow_reads.specs.Tenants.{asker}
use Rattle.ow_reads.specs.Steps.{or_else}
use Rattle.ow_reads.specs.Reasons.{no_route, not_found}
use Rattle.ow_decide.specs.Reasons.{table_reason, tells_full}
use Rattle.ow_decide.specs.Sight.{Sight, is_full, room_for, store_room, view_of}
use Rattle.ow_decide.specs.Decision.{Decision, Same, adds, items_changes, tells}
use Rattle.ow_decide.specs.Firing.{fire_plan, number_for, shot_items, trigger_for, within_fires}
use Rattle.ow_reads.specs.Reading.{good, name_in, read_answer, read_done}
use Rattle.ow_decide.specs.Calling.{admitted_plan, callee, charged_namespace, invocation_plan, plan_items}
use Rattle.ow_decide.specs.WebCalling.{web_extension, web_given, web_name, web_plan}
use Rattle.ow_reads.specs.Shown.{shown_row}
use Rattle.ow_decide.specs.Waiting.{accepted_answer, invoked_reply, shows_of, waits_of}

-- ---- what is wanted, or why it isn't there

-- what is to be done
abbrev pub act_for : Parts → Result Act Reason
act_for p = or_else (act_of p.route p.method) no_route

-- the entity that is given
abbrev pub draft_in : Call → Result Draft Reason
draft_in c = or_else c.draft no_route

-- the stored row of the name
abbrev pub row_for : Sight → EntityKind → FullName → Result Row Reason
row_for S kind name = or_else (found kind name S.rows) not_found

abbrev pub unless_refused : Option TableRefusal → Result (Unit {0}) Reason
unless_refused None = Ok tt
unless_refused (Some e) = Err (table_reason e)

abbrev pub or_table_reason : Result Row EntityRefusal → Result Row Reason
or_table_reason (Ok row) = Ok row
or_table_reason (Err e) = Err (table_reason (table_refusal e))

-- the row of a draft, over the stored row of its name, if there is one
abbrev pub row_of : Sight → Draft → Bool → Result Row Reason
row_of S draft overwrite = do
  free ← unless_refused (put_refusal draft overwrite S.rows)
  or_table_reason (finished_row draft (old_row draft S.rows))

-- ---- the outcome

-- a value is shown; a change is made and this value shown; or a plan is accepted with these items. A trigger is fired that no active rule
-- follows, or one whose fire has these items and this id
pub data Done : Type 0 where
  Shown : (value : V) → Done
  Changed : (change : Change) (value : V) → Done
  Invoked : (items : Trace) (plan : Plan) (shows : Shows) → Done
  Quiet : Done
  Fired : (items : Trace) (id : Id) → Done

abbrev pub put_of : Row → Change
put_of row = record { row = row; removes = false }

-- the row that is put is stored, where the store has room for it, and is shown over the rows after the put
abbrev pub row_done : Sight → Row → Result Done Reason
row_done S row = do
  room ← store_room S (row_changes (put_of row))
  Ok (Changed (put_of row) (shown_row (with_row row S.rows) row))

abbrev pub put_done : Sight → Draft → Bool → Result Done Reason
put_done S draft overwrite = do
  row ← row_of S draft overwrite
  row_done S row

-- the rule of the name
abbrev pub rule_for : Sight → FullName → Result Rule Reason
rule_for S name = or_else (rule_at (standing S.rows) name) not_found

-- a rule with another status is stored and shown; one that has the status already is shown as it is, and nothing is stored
abbrev pub set_done : Sight → Rule → Option Change → Done
set_done S r None = Shown (shown_row S.rows (rows.Rule r))
set_done S r (Some change) = Changed change (shown_row (with_row change.row S.rows) change.row)

-- the outcome of setting the status of the rule of a name
abbrev pub named_set : Sight → FullName → Bool → Result Done Reason
named_set S name active = do
  r ← rule_for S name
  Ok (set_done S r (status_change r active))

-- the outcome for a plan, where the store has room for what is kept of it, and the limits allow it
abbrev pub plan_done : Sight → Plan → Shows → Result Done Reason
plan_done S plan shows = do
  admitted ← admitted_plan S plan
  Ok (Invoked (plan_items S plan) plan shows)

-- the outcome of a fire of these rules, where the store has room for all that is kept of it, and the limit of fires allows it
abbrev pub shot_done : Sight → Fire → List Rule → Result Done Reason
shot_done S f rs = do
  room ← store_room S (items_changes (shot_items S f rs))
  within ← within_fires S f.namespace
  Ok (Fired (shot_items S f rs) f.id)

-- where no rule is active nothing happens, and nothing else is tested
abbrev pub rules_done : Sight → List ℕ → FullName → ℕ → Trigger → Pairs → List Rule → Result Done Reason
rules_done S subject name number t given [] = Ok Quiet
rules_done S subject name number t given (r ∷ rs) = do
  f ← fire_plan S subject name number t given
  shot_done S f (r ∷ rs)

-- the outcome of an act that isn't a read, for the call of the request
abbrev pub change_done : Sight → Holder → Act → Call → Result Done Reason
change_done S h (Reads reading) c = Err no_route
change_done S h Puts c = do
  draft ← draft_in c
  put_done S draft c.overwrite
change_done S h (Removes kind) c = do
  name ← name_in c
  free ← unless_refused (remove_refusal kind name S.rows)
  row ← row_for S kind name
  Ok (Changed (record { row = row; removes = true }) (shown_row S.rows row))
change_done S h Invokes c = do
  name ← name_in c
  plan ← invocation_plan S h.subject (charged_namespace h name) c.blocking name c.params
  plan_done S plan (shows_of c.result_only)
change_done S h Fires c = do
  name ← name_in c
  t ← trigger_for S name
  number ← number_for S name.namespace
  rules_done S h.subject name number t c.params (fired S.rows name)
change_done S h Sets c = do
  name ← name_in c
  active ← or_else c.active no_route
  named_set S name active

abbrev pub shown_done : Result V Reason → Result Done Reason
shown_done (Ok value) = Ok (Shown value)
shown_done (Err reason) = Err reason

abbrev pub called_done : Sight → Holder → Act → Parts → Result Done Reason
called_done S h act p = do
  call ← granted_call h S.rows act p
  change_done S h act call

-- a read is answered from what the caller may see
abbrev pub act_done : Sight → Holder → Act → Parts → Result Done Reason
act_done S h (Reads reading) p = shown_done (read_done (view_of S h) reading p)
act_done S h Puts p = called_done S h Puts p
act_done S h (Removes kind) p = called_done S h (Removes kind) p
act_done S h Invokes p = called_done S h Invokes p
act_done S h Fires p = called_done S h Fires p
act_done S h Sets p = called_done S h Sets p

-- the outcome of a request with a key. Its refusals are tested in the order of their places: the route, the book, the key, the grant,
-- query and path and body, and what is named
abbrev pub keyed_done : Sight → Parts → Result Done Reason
keyed_done S p = do
  act ← act_for p
  room ← room_for S p.size
  h ← asker S.tenants p.key
  act_done S h act p

-- the outcome for the parameters of a web request: it waits for the end, which is answered as the extension says
abbrev pub web_planned : Sight → List ℕ → Callee → Pairs → Extension → Result Done Reason
web_planned S namespace c given extension = do
  plan ← web_plan S namespace c given
  plan_done S plan (Web extension)

abbrev pub web_accepted : Sight → Parts → FullName → Callee → Pairs → Result Done Reason
web_accepted S p name c given = do
  extension ← web_extension p.route
  web_planned S name.namespace c given extension

-- the outcome of a web request to what is called
abbrev pub web_called : Sight → Parts → FullName → Callee → Result Done Reason
web_called S p name c = do
  given ← web_given S.tenants c.effective p
  web_accepted S p name c given

-- the outcome of a web request with a name
abbrev pub web_named : Sight → Parts → FullName → Result Done Reason
web_named S p name = do
  c ← callee S name name.namespace
  web_called S p name c

-- the outcome of a web request, which needs neither a key nor a grant. Its refusals are tested in the order of their places: the book,
-- the names of the path, what is called, what the request gives, and what is accepted
abbrev pub web_done : Sight → Parts → Result Done Reason
web_done S p = do
  room ← room_for S p.size
  name ← web_name p.route
  web_named S p name

-- the outcome of a request
abbrev pub request_done : Sight → Parts → Result Done Reason
request_done S p = if is_web p.route then web_done S p else keyed_done S p

-- ---- the answer

-- the answer is given at once
abbrev pub at_once : Answer → Told
at_once answer = told.Asked (replies.Now answer)

-- the answer to a refused request
abbrev pub refusal_told : Reason → Told
refusal_told reason = if tells_full reason then told.Full (refusal_of reason) else at_once (refusal_of reason)

-- an answer without a body
abbrev pub no_content : Answer
no_content = record { status = 204; headers = []; body = [] }

-- what is done at a request
abbrev pub ask_decision : Result Done Reason → Decision
ask_decision (Ok (Shown value)) = tells (at_once (good value))
ask_decision (Ok (Changed change value)) = record { told = at_once (good value); items = []; changes = change ∷ []; waits = Keep; others = Same }
ask_decision (Ok (Invoked items plan shows)) = record {
  told = told.Asked (invoked_reply plan.id plan.until);
  items = items;
  changes = [];
  waits = waits_of plan.id shows plan.until;
  others = Same;
}
ask_decision (Ok Quiet) = tells (at_once no_content)
ask_decision (Ok (Fired items id)) = adds (at_once (accepted_answer id)) items
ask_decision (Err reason) = tells (refusal_told reason)

-- the reply to a request, by its answer: an answer that the book is full looks like any other
abbrev pub reply_in : Told → Option Reply
reply_in (told.Asked reply) = Some reply
reply_in (told.Full answer) = Some (replies.Now answer)
reply_in t = None

-- a read for which the book has room is answered from what the caller may see
abbrev pub IsOfView : Sight → Type 0
IsOfView S = (h : Holder) (reading : Reading) (p : Parts) → act_of p.route p.method ≡ Some (Reads reading) → is_full S.counted p.size ≡ false → holder_of p.key S.tenants ≡ Some h
    → (ask_decision (request_done S p)).told ≡ at_once (read_answer (view_of S h) reading p)

-- a read leaves the rows and what happened on the floor as they were, and so what anybody may see
abbrev pub ReadsChangeNothing : Type 0
ReadsChangeNothing = (S : Sight) (reading : Reading) (p : Parts) → act_of p.route p.method ≡ Some (Reads reading)
    → ((ask_decision (request_done S p)).items ≡ []) × ((ask_decision (request_done S p)).changes ≡ [])
