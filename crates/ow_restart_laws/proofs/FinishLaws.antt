-- A draft that is put over its own row makes that row again, with another version.
use Rattle.std.proofs.Common.{◌≡◌, ◌+◌, ℕ, unwrap_or, IfOk, Option, Some, None, refl, ap}
use Rattle.ow_names.specs.declared.full.FullName.{FullName}
use Rattle.ow_entity.specs.Finish.{action_made, action_over, as_action, as_package, as_rule, as_trigger, default_action, default_package, default_rule, default_trigger, finished_row, limits_over, new_action, new_rule, next_action, next_package, next_rule, next_trigger, package_made, package_over, rule_made, rule_over, trigger_made, trigger_over}
use Rattle.ow_entity.specs.Row.{version_of, with_version}
use Rattle.ow_entity.specs.declared.actions.Action.{Action}
use Rattle.ow_entity.specs.declared.actions.ActionDraft.{ActionDraft}
use Rattle.ow_entity.specs.declared.bounds.GivenLimits.{GivenLimits}
use Rattle.ow_entity.specs.declared.bounds.Limits.{Limits}
use Rattle.ow_entity.specs.declared.exec.Exec.{Exec}
use Rattle.ow_entity.specs.declared.finishing.TheConstants.{FIRST_VERSION}
use Rattle.ow_entity.specs.declared.packages.Package.{Package}
use Rattle.ow_entity.specs.declared.packages.PackageDraft.{PackageDraft}
use Rattle.ow_entity.specs.declared.refusal.EntityRefusal.TheVariants.{LastVersion}
use Rattle.ow_entity.specs.declared.rows.Draft.{Draft}
use Rattle.ow_entity.specs.declared.rows.Draft.TheVariants as drafts
use Rattle.ow_entity.specs.declared.rows.Row.{Row}
use Rattle.ow_entity.specs.declared.rows.Row.TheVariants as rows
use Rattle.ow_entity.specs.declared.rules.Rule.{Rule}
use Rattle.ow_entity.specs.declared.rules.RuleDraft.{RuleDraft}
use Rattle.ow_entity.specs.declared.triggers.Trigger.{Trigger}
use Rattle.ow_entity.specs.declared.triggers.TriggerDraft.{TriggerDraft}
use Rattle.ow_restart_laws.proofs.Names.{mapped, ok_unless}

-- what is given, or else what was given before, or else the old
again : {X : Type 0} (o : Option X) (x : X) → unwrap_or o (unwrap_or o x) ≡ unwrap_or o x
again None x = refl
again (Some y) x = refl

limits_again : (given : GivenLimits) (old : Limits) → limits_over given (limits_over given old) ≡ limits_over given old
limits_again given old = rw (again given.timeout old.timeout) (rw (again given.memory old.memory) (rw (again given.logs old.logs) refl))

-- ---- actions

action_over_again : (d : ActionDraft) (old : Action) (n m : ℕ) → record (action_over d old n) { version = m } ≡ action_over d (action_over d old n) m
action_over_again d old n m =
    rw (again d.publish old.publish) (rw (again d.params old.params) (rw (again d.notes old.notes) (rw (again d.exec old.exec) (rw (limits_again d.limits old.limits) refl))))

-- the action that the draft makes over this one is this one with another version
abbrev StaysAction : ActionDraft → Action → Type 0
StaysAction d a = IfOk (next_action d a) (λ (b : Action). record a { version = b.version } ≡ b)

action_stays : (d : ActionDraft) (old : Action) (n : ℕ) → StaysAction d (action_over d old n)
action_stays d old n =
    ok_unless (λ (b : Action). record (action_over d old n) { version = b.version } ≡ b) _ LastVersion (action_over d (action_over d old n) (n + 1)) (action_over_again d old n (n + 1))

new_action_stays : (d : ActionDraft) (o : Option Exec) → IfOk (new_action d o) (StaysAction d)
new_action_stays d None = tt
new_action_stays d (Some exec) = action_stays d (default_action d.name exec) FIRST_VERSION

made_action_stays : (d : ActionDraft) (o : Option Action) → IfOk (action_made d o) (StaysAction d)
made_action_stays d None = new_action_stays d d.exec
made_action_stays d (Some old) = ok_unless (StaysAction d) _ LastVersion (action_over d old (old.version + 1)) (action_stays d old (old.version + 1))

-- ---- packages

package_over_again : (d : PackageDraft) (old : Package) (n m : ℕ) → record (package_over d old n) { version = m } ≡ package_over d (package_over d old n) m
package_over_again d old n m = rw (again d.publish old.publish) (rw (again d.params old.params) (rw (again d.notes old.notes) (rw (again d.binding old.binding) refl)))

abbrev StaysPackage : PackageDraft → Package → Type 0
StaysPackage d p = IfOk (next_package d p) (λ (q : Package). record p { version = q.version } ≡ q)

package_stays : (d : PackageDraft) (old : Package) (n : ℕ) → StaysPackage d (package_over d old n)
package_stays d old n =
    ok_unless (λ (q : Package). record (package_over d old n) { version = q.version } ≡ q) _ LastVersion (package_over d (package_over d old n) (n + 1)) (package_over_again d old n (n + 1))

made_package_stays : (d : PackageDraft) (o : Option Package) → IfOk (package_made d o) (StaysPackage d)
made_package_stays d None = package_stays d (default_package d.name) FIRST_VERSION
made_package_stays d (Some old) = ok_unless (StaysPackage d) _ LastVersion (package_over d old (old.version + 1)) (package_stays d old (old.version + 1))

-- ---- rules

rule_over_again : (d : RuleDraft) (old : Rule) (n m : ℕ) → record (rule_over d old n) { version = m } ≡ rule_over d (rule_over d old n) m
rule_over_again d old n m = rw (again d.publish old.publish) (rw (again d.notes old.notes) (rw (again d.trigger old.trigger) (rw (again d.action old.action) refl)))

abbrev StaysRule : RuleDraft → Rule → Type 0
StaysRule d r = IfOk (next_rule d r) (λ (s : Rule). record r { version = s.version } ≡ s)

rule_stays : (d : RuleDraft) (old : Rule) (n : ℕ) → StaysRule d (rule_over d old n)
rule_stays d old n =
    ok_unless (λ (s : Rule). record (rule_over d old n) { version = s.version } ≡ s) _ LastVersion (rule_over d (rule_over d old n) (n + 1)) (rule_over_again d old n (n + 1))

new_rule_stays : (d : RuleDraft) (trigger action : Option FullName) → IfOk (new_rule d trigger action) (StaysRule d)
new_rule_stays d None action = tt
new_rule_stays d (Some trigger) None = tt
new_rule_stays d (Some trigger) (Some action) = rule_stays d (default_rule d.name trigger action) FIRST_VERSION

made_rule_stays : (d : RuleDraft) (o : Option Rule) → IfOk (rule_made d o) (StaysRule d)
made_rule_stays d None = new_rule_stays d d.trigger d.action
made_rule_stays d (Some old) = ok_unless (StaysRule d) _ LastVersion (rule_over d old (old.version + 1)) (rule_stays d old (old.version + 1))

-- ---- triggers

trigger_over_again : (d : TriggerDraft) (old : Trigger) (n m : ℕ) → record (trigger_over d old n) { version = m } ≡ trigger_over d (trigger_over d old n) m
trigger_over_again d old n m = rw (again d.publish old.publish) (rw (again d.params old.params) (rw (again d.notes old.notes) refl))

abbrev StaysTrigger : TriggerDraft → Trigger → Type 0
StaysTrigger d t = IfOk (next_trigger d t) (λ (u : Trigger). record t { version = u.version } ≡ u)

trigger_stays : (d : TriggerDraft) (old : Trigger) (n : ℕ) → StaysTrigger d (trigger_over d old n)
trigger_stays d old n =
    ok_unless (λ (u : Trigger). record (trigger_over d old n) { version = u.version } ≡ u) _ LastVersion (trigger_over d (trigger_over d old n) (n + 1)) (trigger_over_again d old n (n + 1))

made_trigger_stays : (d : TriggerDraft) (o : Option Trigger) → IfOk (trigger_made d o) (StaysTrigger d)
made_trigger_stays d None = trigger_stays d (default_trigger d.name) FIRST_VERSION
made_trigger_stays d (Some old) = ok_unless (StaysTrigger d) _ LastVersion (trigger_over d old (old.version + 1)) (trigger_stays d old (old.version + 1))

-- ---- rows

-- the row that the draft makes over this one is this one with another version
abbrev pub StaysRow : Draft → Row → Type 0
StaysRow d r = IfOk (finished_row d (Some r)) (λ (s : Row). with_version (version_of s) r ≡ s)

-- the row of a draft is so, over whatever it was made
pub made_stays : (d : Draft) (old : Option Row) → IfOk (finished_row d old) (StaysRow d)
unfolding finished_row
made_stays (drafts.Action d) old =
    mapped (StaysAction d) (StaysRow (drafts.Action d)) rows.Action (action_made d (as_action old))
    (λ a h. mapped (λ (b : Action). record a { version = b.version } ≡ b) (λ (s : Row). with_version (version_of s) (rows.Action a) ≡ s) rows.Action (next_action d a) (λ b e. ap rows.Action e) h)
    (made_action_stays d (as_action old))
made_stays (drafts.Package d) old =
    mapped (StaysPackage d) (StaysRow (drafts.Package d)) rows.Package (package_made d (as_package old))
    (λ p h. mapped (λ (q : Package). record p { version = q.version } ≡ q) (λ (s : Row). with_version (version_of s) (rows.Package p) ≡ s) rows.Package (next_package d p) (λ q e. ap rows.Package e) h)
    (made_package_stays d (as_package old))
made_stays (drafts.Rule d) old =
    mapped (StaysRule d) (StaysRow (drafts.Rule d)) rows.Rule (rule_made d (as_rule old))
    (λ r h. mapped (λ (s : Rule). record r { version = s.version } ≡ s) (λ (s : Row). with_version (version_of s) (rows.Rule r) ≡ s) rows.Rule (next_rule d r) (λ s e. ap rows.Rule e) h)
    (made_rule_stays d (as_rule old))
made_stays (drafts.Trigger d) old =
    mapped (StaysTrigger d) (StaysRow (drafts.Trigger d)) rows.Trigger (trigger_made d (as_trigger old))
    (λ t h. mapped (λ (u : Trigger). record t { version = u.version } ≡ u) (λ (s : Row). with_version (version_of s) (rows.Trigger t) ≡ s) rows.Trigger (next_trigger d t) (λ u e. ap rows.Trigger e) h)
    (made_trigger_stays d (as_trigger old))
