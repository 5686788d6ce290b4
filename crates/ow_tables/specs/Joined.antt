-- What a rule joins: the trigger whose fires it follows, and the action that it invokes.
use Rattle.std.specs.Prelude.{◌&&◌, ℕ, List, [], ◌∷◌, is_some, option_map, if◌then◌else◌, Option, Some, None}
use Rattle.std.specs.Option.{option_or}
use Rattle.std.specs.Str.{bytes_eq}
use Rattle.ow_names.specs.declared.full.FullName.{FullName}
use Rattle.ow_entity.specs.declared.kinds.EntityKind.TheVariants as kinds
use Rattle.ow_entity.specs.declared.rules.Rule.{Rule}
use Rattle.ow_entity.specs.declared.rules.RuleDraft.{RuleDraft}
use Rattle.ow_entity.specs.declared.triggers.Trigger.{Trigger}
use Rattle.ow_entity.specs.Chain.{first_some}
use Rattle.ow_entity.specs.Finish.{as_rule, as_trigger}
use Rattle.ow_packages.specs.Access.{Standing}
use Rattle.ow_packages.specs.Effective.{effective}
use Rattle.ow_tables.specs.declared.refusal.TableRefusal.{TableRefusal}
use Rattle.ow_tables.specs.declared.refusal.TableRefusal.TheVariants.{NotFound}

abbrev pub rule_at : Standing → FullName → Option Rule
rule_at standing name = as_rule (standing kinds.Rule name)

abbrev pub trigger_at : Standing → FullName → Option Trigger
trigger_at standing name = as_trigger (standing kinds.Trigger name)

-- the trigger that a draft gives, or else that of the old rule
abbrev pub joined_trigger : RuleDraft → Option Rule → Option FullName
joined_trigger d old = option_or d.trigger (option_map (λ r. r.trigger) old)

-- the action that a draft gives, or else that of the old rule
abbrev pub joined_action : RuleDraft → Option Rule → Option FullName
joined_action d old = option_or d.action (option_map (λ r. r.action) old)

-- the trigger isn't in this namespace
abbrev pub trigger_refusal : Standing → List ℕ → Option FullName → Option TableRefusal
trigger_refusal standing from None = None
trigger_refusal standing from (Some t) = if bytes_eq t.namespace from && is_some (trigger_at standing t) then None else Some NotFound

-- the name calls no action from this namespace
abbrev pub action_refusal : Standing → List ℕ → Option FullName → Option TableRefusal
action_refusal standing from None = None
action_refusal standing from (Some a) = if is_some (effective standing a from) then None else Some NotFound

-- a draft over an old rule, if any, joins what its namespace lacks
abbrev pub joined_refusal : Standing → RuleDraft → Option Rule → Option TableRefusal
joined_refusal standing d old = first_some (
    trigger_refusal standing d.name.namespace (joined_trigger d old)
    ∷ action_refusal standing d.name.namespace (joined_action d old)
    ∷ [])
