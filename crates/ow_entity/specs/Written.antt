-- How a row is shown.
use Rattle.std.specs.Prelude.{◌≡◌, ℕ, pos, Bool, List, [], ◌∷◌, ◌++◌, map, codes, decimal, Option, Some, None}
use Rattle.std.specs.List.{AllByRecursion}
use Rattle.ow_value.specs.Value.{V, Pairs, boolean, whole, text, list, object, items_of, members_of}
use Rattle.ow_names.specs.FullName.{full_text}
use Rattle.ow_names.specs.Path.{home}
use Rattle.ow_names.specs.declared.full.FullName.{FullName}
use Rattle.ow_entity.specs.declared.bounds.Limits.{Limits}
use Rattle.ow_entity.specs.declared.exec.Exec.{Exec}
use Rattle.ow_entity.specs.declared.actions.Action.{Action}
use Rattle.ow_entity.specs.declared.packages.Package.{Package}
use Rattle.ow_entity.specs.declared.rules.Rule.{Rule}
use Rattle.ow_entity.specs.declared.triggers.Trigger.{Trigger}
use Rattle.ow_entity.specs.declared.rows.Row.{Row}
use Rattle.ow_entity.specs.declared.rows.Row.TheVariants as rows
use Rattle.ow_entity.specs.declared.exec.Exec.TheVariants.{Plain, Program, Sequence}
use Rattle.ow_entity.specs.Pairs.{pairs_value}
use Rattle.ow_entity.specs.Status.{status_text}

abbrev pub code_value : List ℕ → List ℕ → V
code_value kind code = object (members_of ((codes "code", text code) ∷ (codes "kind", text kind) ∷ []))

abbrev pub name_value : FullName → V
name_value n = text (full_text n)

abbrev pub sequence_value : List FullName → V
sequence_value components = object (members_of (
    (codes "components", list (items_of (map name_value components)))
    ∷ (codes "kind", text (codes "sequence"))
    ∷ []))

abbrev pub exec_value : Exec → V
exec_value (Plain code) = code_value (codes "plain:1") code
exec_value (Program code) = code_value (codes "program:1") code
exec_value (Sequence components) = sequence_value components

-- each component, as it is shown, is the same name for a reader of the namespace: none is in a namespace `_`
abbrev pub IsReadIn : List ℕ → Exec → Type 0
IsReadIn here (Sequence components) = AllByRecursion (λ n. home here n.namespace ≡ n.namespace) components
IsReadIn here exec = Unit {0}

abbrev pub limits_value : Limits → V
limits_value l = object (members_of (
    (codes "logs", whole (pos l.logs))
    ∷ (codes "memory", whole (pos l.memory))
    ∷ (codes "timeout", whole (pos l.timeout))
    ∷ []))

-- an entity in a package shows the namespace and the package
abbrev pub shown_namespace : List ℕ → Option (List ℕ) → List ℕ
shown_namespace namespace None = namespace
shown_namespace namespace (Some «package») = namespace ++ 47 ∷ «package»

abbrev pub shown_version : ℕ → List ℕ
shown_version version = codes "0.0." ++ decimal version

abbrev pub action_value : Action → V
action_value a = object (members_of (
    (codes "annotations", pairs_value a.notes)
    ∷ (codes "exec", exec_value a.exec)
    ∷ (codes "limits", limits_value a.limits)
    ∷ (codes "name", text a.name.name)
    ∷ (codes "namespace", text (shown_namespace a.name.namespace a.name.package))
    ∷ (codes "parameters", pairs_value a.params)
    ∷ (codes "publish", boolean a.publish)
    ∷ (codes "version", text (shown_version a.version))
    ∷ []))

-- the package that a binding binds, or nothing
abbrev pub binding_value : Option FullName → V
binding_value None = object (members_of [])
binding_value (Some bound) = object (members_of ((codes "name", text bound.name) ∷ (codes "namespace", text bound.namespace) ∷ []))

-- the actions in it are shown beside these members, from other rows
abbrev pub package_value : Package → V
package_value p = object (members_of (
    (codes "annotations", pairs_value p.notes)
    ∷ (codes "binding", binding_value p.binding)
    ∷ (codes "name", text p.name.name)
    ∷ (codes "namespace", text (shown_namespace p.name.namespace p.name.package))
    ∷ (codes "parameters", pairs_value p.params)
    ∷ (codes "publish", boolean p.publish)
    ∷ (codes "version", text (shown_version p.version))
    ∷ []))

abbrev pub rule_value : Rule → V
rule_value r = object (members_of (
    (codes "action", text (full_text r.action))
    ∷ (codes "annotations", pairs_value r.notes)
    ∷ (codes "name", text r.name.name)
    ∷ (codes "namespace", text (shown_namespace r.name.namespace r.name.package))
    ∷ (codes "publish", boolean r.publish)
    ∷ (codes "status", text (status_text r.active))
    ∷ (codes "trigger", text (full_text r.trigger))
    ∷ (codes "version", text (shown_version r.version))
    ∷ []))

abbrev pub trigger_value : Trigger → V
trigger_value t = object (members_of (
    (codes "annotations", pairs_value t.notes)
    ∷ (codes "name", text t.name.name)
    ∷ (codes "namespace", text (shown_namespace t.name.namespace t.name.package))
    ∷ (codes "parameters", pairs_value t.params)
    ∷ (codes "publish", boolean t.publish)
    ∷ (codes "version", text (shown_version t.version))
    ∷ []))

unfoldable pub row_value : Row → V
row_value (rows.Action a) = action_value a
row_value (rows.Package p) = package_value p
row_value (rows.Rule r) = rule_value r
row_value (rows.Trigger t) = trigger_value t

abbrev pub summary_of : FullName → Pairs → Bool → ℕ → V
summary_of name notes publish version = object (members_of (
    (codes "annotations", pairs_value notes)
    ∷ (codes "name", text name.name)
    ∷ (codes "namespace", text (shown_namespace name.namespace name.package))
    ∷ (codes "publish", boolean publish)
    ∷ (codes "version", text (shown_version version))
    ∷ []))

unfoldable pub summary_value : Row → V
summary_value (rows.Action a) = summary_of a.name a.notes a.publish a.version
summary_value (rows.Package p) = summary_of p.name p.notes p.publish p.version
summary_value (rows.Rule r) = summary_of r.name r.notes r.publish r.version
summary_value (rows.Trigger t) = summary_of t.name t.notes t.publish t.version

-- what a package shows of a row that lies in it
abbrev pub entry_of : FullName → Pairs → ℕ → V
entry_of name notes version = object (members_of (
    (codes "annotations", pairs_value notes)
    ∷ (codes "name", text name.name)
    ∷ (codes "version", text (shown_version version))
    ∷ []))

unfoldable pub package_entry : Row → V
package_entry (rows.Action a) = entry_of a.name a.notes a.version
package_entry (rows.Package p) = entry_of p.name p.notes p.version
package_entry (rows.Rule r) = entry_of r.name r.notes r.version
package_entry (rows.Trigger t) = entry_of t.name t.notes t.version
