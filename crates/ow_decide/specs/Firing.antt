-- Fires of triggers: which activations the active rules make, what the record says of each rule, and what refuses a fire.
use Rattle.std.specs.Prelude.{◌++◌, ℕ, false, List, [], ◌∷◌, codes, pos, None, Result, Ok, Err}
use Rattle.ow_value.specs.Value.{V, Pairs, object, member, no_members, text, whole}
use Rattle.ow_value.specs.Text.{compact}
use Rattle.ow_names.specs.FullName.{full_text}
use Rattle.ow_names.specs.declared.full.FullName.{FullName}
use Rattle.ow_entity.specs.declared.rules.Rule.{Rule}
use Rattle.ow_entity.specs.declared.triggers.Trigger.{Trigger}
use Rattle.ow_tables.specs.Joined.{trigger_at}
use Rattle.ow_tables.specs.Rows.{standing}
use Rattle.ow_records.specs.Fire.{trigger_record}
use Rattle.ow_records.specs.Id.{id_text}
use Rattle.ow_records.specs.declared.fires.Fire.{Fire}
use Rattle.ow_records.specs.declared.ids.Id.{Id}
use Rattle.ow_records.specs.declared.record.Record.{Record}
use Rattle.ow_floor.specs.Calls.{draw_items, fire_items}
use Rattle.ow_floor.specs.Trace.{Trace}
use Rattle.ow_floor.specs.declared.activations.Plan.{Plan}
use Rattle.ow_tenant.specs.Tenants.{limits_of, number_of}
use Rattle.ow_counts.specs.Counts.{fire_admitted}
use Rattle.ow_http.specs.Number.{number_of as reason_number}
use Rattle.ow_http.specs.Reason.{text_of}
use Rattle.ow_http.specs.Steps.{◌>>=◌}
use Rattle.ow_http.specs.declared.reason.Reason.{Reason}
use Rattle.ow_reads.specs.Reasons.{not_found}
use Rattle.ow_reads.specs.Steps.{or_else}
use Rattle.ow_decide.specs.declared.call_steps.Callee.{Callee}
use Rattle.ow_decide.specs.Calling.{callee, fitting, given_over, next_id, plan_for, plan_items}
use Rattle.ow_decide.specs.Reasons.{too_large}
use Rattle.ow_decide.specs.Sight.{Sight, or_limit, takes_calls, within_limits}

-- ---- what is fired

-- the trigger of the name
abbrev pub trigger_for : Sight → FullName → Result Trigger Reason
trigger_for S name = or_else (trigger_at (standing S.rows) name) not_found

-- the number of its namespace
abbrev pub number_for : Sight → List ℕ → Result ℕ Reason
number_for S namespace = or_else (number_of namespace S.tenants) not_found

-- a fire under the next id of the trigger's namespace, in the name of a subject
abbrev pub fire_of : Sight → List ℕ → FullName → ℕ → Trigger → Pairs → Fire
fire_of S subject name number t params = record {
  id = next_id S number;
  at = S.moment;
  name = name.name;
  namespace = name.namespace;
  subject = subject;
  version = t.version;
  params = params;
}

-- where the merged parameters aren't too many bytes, and the floor takes calls: what is given replaces what the trigger has
abbrev pub fire_plan : Sight → List ℕ → FullName → ℕ → Trigger → Pairs → Result Fire Reason
fire_plan S subject name number t given = do
  params ← or_else (fitting t.params given) too_large
  taken ← takes_calls S
  Ok (fire_of S subject name number t params)

-- the limit of fires allows one more that is charged to a namespace
abbrev pub within_fires : Sight → List ℕ → Result (Unit {0}) Reason
within_fires S namespace = or_limit (fire_admitted S.trace namespace (limits_of namespace S.tenants) S.moment)

-- ---- one rule

-- what is seen after these items
abbrev pub seeing : Trace → Sight → Sight
seeing items S = record S { trace = items ++ S.trace }

-- what is to be accepted with these parameters, where the limits allow it
abbrev pub merged_rule : Sight → Fire → Callee → Pairs → Result Plan Reason
merged_rule S f c merged = do
  within ← within_limits S f.namespace
  Ok (plan_for f.subject None (next_id S c.number) f.namespace c.effective merged)

abbrev pub called_rule : Sight → Fire → Callee → Result Plan Reason
called_rule S f c = do
  merged ← given_over c.effective f.params false
  merged_rule S f c merged

-- what a rule makes of a fire. Its refusals are in the order of their places: what its action calls from the trigger's namespace, the
-- fixed parameters, the merged parameters, and the limits
abbrev pub rule_plan : Sight → Fire → Rule → Result Plan Reason
rule_plan S f r = do
  c ← callee S r.action f.namespace
  called_rule S f c

-- the activation that a rule makes, with the steps that a composite makes at once; a refused rule makes none
abbrev pub rule_items : Sight → Result Plan Reason → Trace
rule_items S (Ok plan) = plan_items S plan
rule_items S (Err reason) = []

-- `{"action":A,"activationId":ID,"rule":R}`
abbrev pub made_value : Rule → Id → V
made_value r id = object (
    member (codes "action") (text (full_text r.action)) (
    member (codes "activationId") (text (id_text id)) (
    member (codes "rule") (text (full_text r.name)) no_members)))

-- `{"action":A,"code":N,"error":TEXT,"rule":R}`
abbrev pub refused_value : Rule → Reason → V
refused_value r reason = object (
    member (codes "action") (text (full_text r.action)) (
    member (codes "code") (whole (pos (reason_number reason))) (
    member (codes "error") (text (text_of reason)) (
    member (codes "rule") (text (full_text r.name)) no_members))))

-- the line of the record that says what came of a rule
abbrev pub rule_line : Rule → Result Plan Reason → List ℕ
rule_line r (Ok plan) = compact (made_value r plan.id)
rule_line r (Err reason) = compact (refused_value r reason)

-- ---- all rules, one after another: each is tested after the activations of those before it

-- the items after a rule
abbrev pub after_rule : Sight → Fire → Rule → Trace → Trace
after_rule S f r items = rule_items (seeing items S) (rule_plan (seeing items S) f r) ++ items

-- the items after all rules
abbrev pub after_rules : Sight → Fire → List Rule → Trace → Trace
after_rules S f [] items = items
after_rules S f (r ∷ rs) items = after_rules S f rs (after_rule S f r items)

-- a line for each rule
abbrev pub rule_lines : Sight → Fire → List Rule → Trace → List (List ℕ)
rule_lines S f [] items = []
rule_lines S f (r ∷ rs) items = rule_line r (rule_plan (seeing items S) f r) ∷ rule_lines S f rs (after_rule S f r items)

-- ---- the whole fire

-- its record
abbrev pub fire_record : Sight → Fire → List Rule → Record
fire_record S f rs = trigger_record f (rule_lines S f rs (draw_items S.moment f.id))

-- its items: first its id is drawn, then the rules make their activations, and then it is recorded
abbrev pub shot_items : Sight → Fire → List Rule → Trace
shot_items S f rs = fire_items (fire_record S f rs) ++ after_rules S f rs (draw_items S.moment f.id)
