-- The row that a draft makes has the kind and the name of the draft.
use Rattle.std.proofs.Common.{◌≡◌, ◌+◌, Bool, true, false, cond, Option, Some, None, Result, Ok, Err, IfOk, refl}
use Rattle.ow_names.specs.declared.full.FullName.{FullName}
use Rattle.ow_entity.specs.Chain.{result_map}
use Rattle.ow_entity.specs.Finish.{action_made, action_over, as_action, as_package, as_rule, as_trigger, finished_row, new_action, new_rule, package_made, package_over, rule_made, rule_over, trigger_made, trigger_over}
use Rattle.ow_entity.specs.Row.{draft_kind, draft_name, kind_of, name_of}
use Rattle.ow_entity.specs.declared.actions.Action.{Action}
use Rattle.ow_entity.specs.declared.actions.ActionDraft.{ActionDraft}
use Rattle.ow_entity.specs.declared.exec.Exec.{Exec}
use Rattle.ow_entity.specs.declared.kinds.EntityKind.{EntityKind}
use Rattle.ow_entity.specs.declared.packages.Package.{Package}
use Rattle.ow_entity.specs.declared.packages.PackageDraft.{PackageDraft}
use Rattle.ow_entity.specs.declared.refusal.EntityRefusal.{EntityRefusal}
use Rattle.ow_entity.specs.declared.refusal.EntityRefusal.TheVariants.{LastVersion}
use Rattle.ow_entity.specs.declared.rows.Draft.{Draft}
use Rattle.ow_entity.specs.declared.rows.Draft.TheVariants as drafts
use Rattle.ow_entity.specs.declared.rows.Row.{Row}
use Rattle.ow_entity.specs.declared.rows.Row.TheVariants as rows
use Rattle.ow_entity.specs.declared.rules.Rule.{Rule}
use Rattle.ow_entity.specs.declared.rules.RuleDraft.{RuleDraft}
use Rattle.ow_entity.specs.declared.triggers.Trigger.{Trigger}
use Rattle.ow_entity.specs.declared.triggers.TriggerDraft.{TriggerDraft}

mapped : {A B E : Type 0} (P : A → Type 0) (Q : B → Type 0) (f : A → B) (r : Result A E) → ((x : A) → P x → Q (f x)) → IfOk r P → IfOk (result_map f r) Q
mapped P Q f (Ok x) g h = g x h
mapped P Q f (Err e) g h = tt

ok_unless : {A E : Type 0} (P : A → Type 0) (b : Bool) (e : E) (x : A) → P x → IfOk (cond b (Err e) (Ok x)) P
ok_unless P true e x h = tt
ok_unless P false e x h = h

-- ---- the name

new_named : (d : ActionDraft) (o : Option Exec) → IfOk (new_action d o) (λ (a : Action). a.name ≡ d.name)
new_named d None = tt
new_named d (Some exec) = refl

action_named : (d : ActionDraft) (o : Option Action) → IfOk (action_made d o) (λ (a : Action). a.name ≡ d.name)
action_named d None = new_named d d.exec
action_named d (Some old) = ok_unless (λ (a : Action). a.name ≡ d.name) _ LastVersion (action_over d old (old.version + 1)) refl

package_named : (d : PackageDraft) (o : Option Package) → IfOk (package_made d o) (λ (p : Package). p.name ≡ d.name)
package_named d None = refl
package_named d (Some old) = ok_unless (λ (p : Package). p.name ≡ d.name) _ LastVersion (package_over d old (old.version + 1)) refl

new_rule_named : (d : RuleDraft) (trigger action : Option FullName) → IfOk (new_rule d trigger action) (λ (r : Rule). r.name ≡ d.name)
new_rule_named d None action = tt
new_rule_named d (Some trigger) None = tt
new_rule_named d (Some trigger) (Some action) = refl

rule_named : (d : RuleDraft) (o : Option Rule) → IfOk (rule_made d o) (λ (r : Rule). r.name ≡ d.name)
rule_named d None = new_rule_named d d.trigger d.action
rule_named d (Some old) = ok_unless (λ (r : Rule). r.name ≡ d.name) _ LastVersion (rule_over d old (old.version + 1)) refl

trigger_named : (d : TriggerDraft) (o : Option Trigger) → IfOk (trigger_made d o) (λ (t : Trigger). t.name ≡ d.name)
trigger_named d None = refl
trigger_named d (Some old) = ok_unless (λ (t : Trigger). t.name ≡ d.name) _ LastVersion (trigger_over d old (old.version + 1)) refl

pub finished_named : (d : Draft) (old : Option Row) → IfOk (finished_row d old) (λ (r : Row). name_of r ≡ draft_name d)
unfolding finished_row
finished_named (drafts.Action d) old =
    mapped (λ (a : Action). a.name ≡ d.name) (λ (r : Row). name_of r ≡ d.name) rows.Action (action_made d (as_action old)) (λ a e. e) (action_named d (as_action old))
finished_named (drafts.Package d) old =
    mapped (λ (p : Package). p.name ≡ d.name) (λ (r : Row). name_of r ≡ d.name) rows.Package (package_made d (as_package old)) (λ p e. e) (package_named d (as_package old))
finished_named (drafts.Rule d) old =
    mapped (λ (r : Rule). r.name ≡ d.name) (λ (r : Row). name_of r ≡ d.name) rows.Rule (rule_made d (as_rule old)) (λ r e. e) (rule_named d (as_rule old))
finished_named (drafts.Trigger d) old =
    mapped (λ (t : Trigger). t.name ≡ d.name) (λ (r : Row). name_of r ≡ d.name) rows.Trigger (trigger_made d (as_trigger old)) (λ t e. e) (trigger_named d (as_trigger old))

-- ---- the kind

kinded : {A E : Type 0} (k : EntityKind) (f : A → Row) (r : Result A E) → ((a : A) → kind_of (f a) ≡ k) → IfOk (result_map f r) (λ (x : Row). kind_of x ≡ k)
kinded k f (Ok a) is = is a
kinded k f (Err e) is = tt

pub finished_kind : (d : Draft) (old : Option Row) → IfOk (finished_row d old) (λ (r : Row). kind_of r ≡ draft_kind d)
unfolding finished_row
finished_kind (drafts.Action d) old = kinded _ rows.Action (action_made d (as_action old)) (λ a. refl)
finished_kind (drafts.Package d) old = kinded _ rows.Package (package_made d (as_package old)) (λ p. refl)
finished_kind (drafts.Rule d) old = kinded _ rows.Rule (rule_made d (as_rule old)) (λ r. refl)
finished_kind (drafts.Trigger d) old = kinded _ rows.Trigger (trigger_made d (as_trigger old)) (λ t. refl)
