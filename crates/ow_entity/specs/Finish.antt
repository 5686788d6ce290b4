-- The row that a draft makes, over an old row or over none.
use Rattle.std.specs.Prelude.{◌==◌, ◌+◌, ℕ, [], true, false, if◌then◌else◌, unwrap_or, Option, Some, None, Result, Ok, Err}
use Rattle.ow_entity.specs.Chain.{and_then, result_map}
use Rattle.ow_value.specs.Value.{V}
use Rattle.ow_names.specs.declared.full.FullName.{FullName}
use Rattle.ow_entity.specs.declared.kinds.EntityKind.{EntityKind}
use Rattle.ow_entity.specs.Body.{entity_of}
use Rattle.ow_entity.specs.declared.field_name.FieldName.TheVariants as fields
use Rattle.ow_entity.specs.declared.refusal.EntityRefusal.{EntityRefusal}
use Rattle.ow_entity.specs.declared.refusal.EntityRefusal.TheVariants.{MissingField, LastVersion}
use Rattle.ow_entity.specs.declared.bounds.GivenLimits.{GivenLimits}
use Rattle.ow_entity.specs.declared.bounds.Limits.{Limits}
use Rattle.ow_entity.specs.declared.bounds.TheConstants.{DEFAULT_TIMEOUT, DEFAULT_MEMORY, DEFAULT_LOGS}
use Rattle.ow_entity.specs.declared.finishing.TheConstants.{FIRST_VERSION, LAST_VERSION}
use Rattle.ow_entity.specs.declared.exec.Exec.{Exec}
use Rattle.ow_entity.specs.declared.actions.Action.{Action}
use Rattle.ow_entity.specs.declared.actions.ActionDraft.{ActionDraft}
use Rattle.ow_entity.specs.declared.packages.Package.{Package}
use Rattle.ow_entity.specs.declared.packages.PackageDraft.{PackageDraft}
use Rattle.ow_entity.specs.declared.rules.Rule.{Rule}
use Rattle.ow_entity.specs.declared.rules.RuleDraft.{RuleDraft}
use Rattle.ow_entity.specs.declared.triggers.Trigger.{Trigger}
use Rattle.ow_entity.specs.declared.triggers.TriggerDraft.{TriggerDraft}
use Rattle.ow_entity.specs.declared.rows.Row.{Row}
use Rattle.ow_entity.specs.declared.rows.Row.TheVariants as rows
use Rattle.ow_entity.specs.declared.rows.Draft.{Draft}
use Rattle.ow_entity.specs.declared.rows.Draft.TheVariants as drafts

-- ---- actions

abbrev pub limits_over : GivenLimits → Limits → Limits
limits_over given old = record {
  timeout = unwrap_or given.timeout old.timeout;
  memory = unwrap_or given.memory old.memory;
  logs = unwrap_or given.logs old.logs;
}

-- what a draft gives, and the rest from another action
abbrev pub action_over : ActionDraft → Action → ℕ → Action
action_over d old version = record {
  name = d.name;
  version = version;
  publish = unwrap_or d.publish old.publish;
  params = unwrap_or d.params old.params;
  notes = unwrap_or d.notes old.notes;
  exec = unwrap_or d.exec old.exec;
  limits = limits_over d.limits old.limits;
}

abbrev pub default_limits : Limits
default_limits = record { timeout = DEFAULT_TIMEOUT; memory = DEFAULT_MEMORY; logs = DEFAULT_LOGS }

-- the defaults: nothing but a name and what it runs
abbrev pub default_action : FullName → Exec → Action
default_action name exec = record {
  name = name;
  version = 0;
  publish = false;
  params = [];
  notes = [];
  exec = exec;
  limits = default_limits;
}

abbrev pub new_action : ActionDraft → Option Exec → Result Action EntityRefusal
new_action d None = Err (MissingField fields.Exec)
new_action d (Some exec) = Ok (action_over d (default_action d.name exec) FIRST_VERSION)

-- the last version is the greatest that there can be
abbrev pub next_action : ActionDraft → Action → Result Action EntityRefusal
next_action d old = if old.version == LAST_VERSION then Err LastVersion else Ok (action_over d old (old.version + 1))

-- the action that a draft of an action is put over: a row of another kind is none
abbrev pub as_action : Option Row → Option Action
as_action (Some (rows.Action old)) = Some old
as_action old = None

abbrev pub action_made : ActionDraft → Option Action → Result Action EntityRefusal
action_made d None = new_action d d.exec
action_made d (Some old) = next_action d old

-- ---- packages

abbrev pub package_over : PackageDraft → Package → ℕ → Package
package_over d old version = record {
  name = d.name;
  version = version;
  publish = unwrap_or d.publish old.publish;
  params = unwrap_or d.params old.params;
  notes = unwrap_or d.notes old.notes;
  binding = unwrap_or d.binding old.binding;
}

-- the defaults: nothing but a name
abbrev pub default_package : FullName → Package
default_package name = record {
  name = name;
  version = 0;
  publish = false;
  params = [];
  notes = [];
  binding = None;
}

abbrev pub new_package : PackageDraft → Package
new_package d = package_over d (default_package d.name) FIRST_VERSION

abbrev pub next_package : PackageDraft → Package → Result Package EntityRefusal
next_package d old = if old.version == LAST_VERSION then Err LastVersion else Ok (package_over d old (old.version + 1))

-- the package that a draft of a package is put over
abbrev pub as_package : Option Row → Option Package
as_package (Some (rows.Package old)) = Some old
as_package old = None

abbrev pub package_made : PackageDraft → Option Package → Result Package EntityRefusal
package_made d None = Ok (new_package d)
package_made d (Some old) = next_package d old

-- ---- triggers

abbrev pub trigger_over : TriggerDraft → Trigger → ℕ → Trigger
trigger_over d old version = record {
  name = d.name;
  version = version;
  publish = unwrap_or d.publish old.publish;
  params = unwrap_or d.params old.params;
  notes = unwrap_or d.notes old.notes;
}

-- the defaults: nothing but a name
abbrev pub default_trigger : FullName → Trigger
default_trigger name = record { name = name; version = 0; publish = false; params = []; notes = [] }

abbrev pub new_trigger : TriggerDraft → Trigger
new_trigger d = trigger_over d (default_trigger d.name) FIRST_VERSION

abbrev pub next_trigger : TriggerDraft → Trigger → Result Trigger EntityRefusal
next_trigger d old = if old.version == LAST_VERSION then Err LastVersion else Ok (trigger_over d old (old.version + 1))

-- the trigger that a draft of a trigger is put over
abbrev pub as_trigger : Option Row → Option Trigger
as_trigger (Some (rows.Trigger old)) = Some old
as_trigger old = None

abbrev pub trigger_made : TriggerDraft → Option Trigger → Result Trigger EntityRefusal
trigger_made d None = Ok (new_trigger d)
trigger_made d (Some old) = next_trigger d old

-- ---- rules

-- no draft says anything of the status
abbrev pub rule_over : RuleDraft → Rule → ℕ → Rule
rule_over d old version = record {
  name = d.name;
  version = version;
  publish = unwrap_or d.publish old.publish;
  notes = unwrap_or d.notes old.notes;
  trigger = unwrap_or d.trigger old.trigger;
  action = unwrap_or d.action old.action;
  active = old.active;
}

-- the defaults: nothing but a name and what it joins, and active
abbrev pub default_rule : FullName → FullName → FullName → Rule
default_rule name trigger action = record {
  name = name;
  version = 0;
  publish = false;
  notes = [];
  trigger = trigger;
  action = action;
  active = true;
}

abbrev pub new_rule : RuleDraft → Option FullName → Option FullName → Result Rule EntityRefusal
new_rule d None action = Err (MissingField fields.Trigger)
new_rule d (Some trigger) None = Err (MissingField fields.Action)
new_rule d (Some trigger) (Some action) = Ok (rule_over d (default_rule d.name trigger action) FIRST_VERSION)

abbrev pub next_rule : RuleDraft → Rule → Result Rule EntityRefusal
next_rule d old = if old.version == LAST_VERSION then Err LastVersion else Ok (rule_over d old (old.version + 1))

-- the rule that a draft of a rule is put over
abbrev pub as_rule : Option Row → Option Rule
as_rule (Some (rows.Rule old)) = Some old
as_rule old = None

abbrev pub rule_made : RuleDraft → Option Rule → Result Rule EntityRefusal
rule_made d None = new_rule d d.trigger d.action
rule_made d (Some old) = next_rule d old

-- ---- rows

unfoldable pub finished_row : Draft → Option Row → Result Row EntityRefusal
finished_row (drafts.Action d) old = result_map rows.Action (action_made d (as_action old))
finished_row (drafts.Package d) old = result_map rows.Package (package_made d (as_package old))
finished_row (drafts.Rule d) old = result_map rows.Rule (rule_made d (as_rule old))
finished_row (drafts.Trigger d) old = result_map rows.Trigger (trigger_made d (as_trigger old))

-- the row that a body makes over no row
unfoldable pub row_of_body : EntityKind → FullName → V → Result Row EntityRefusal
row_of_body kind name body = and_then (entity_of kind name body) (λ d. finished_row d None)
