-- A put that is not refused makes a rule that joins what its namespace has.
use Rattle.std.proofs.Common.{◌≡◌, ℕ, List, ◌∷◌, Bool, true, false, cond, is_some, unwrap_or, Option, Some, None, Result, Ok, Err, IfOk, OnOk, refl, sym, ap, ◌∙◌, subst}
use Rattle.std.specs.Option.{option_or}
use Rattle.std.specs.Str.{bytes_eq}
use Rattle.std.proofs.lemmas.Bool.{and_parts}
use Rattle.ow_names.specs.declared.full.FullName.{FullName}
use Rattle.ow_entity.specs.Chain.{first_some, result_map}
use Rattle.ow_entity.specs.Finish.{action_made, as_action, as_package, as_trigger, default_rule, finished_row, new_rule, package_made, rule_made, rule_over, trigger_made}
use Rattle.ow_entity.specs.declared.actions.Action.{Action}
use Rattle.ow_entity.specs.declared.finishing.TheConstants.{FIRST_VERSION}
use Rattle.ow_entity.specs.declared.packages.Package.{Package}
use Rattle.ow_entity.specs.declared.refusal.EntityRefusal.{EntityRefusal}
use Rattle.ow_entity.specs.declared.rows.Draft.{Draft}
use Rattle.ow_entity.specs.declared.rows.Draft.TheVariants as drafts
use Rattle.ow_entity.specs.declared.rows.Row.{Row}
use Rattle.ow_entity.specs.declared.rows.Row.TheVariants as rows
use Rattle.ow_entity.specs.declared.rules.Rule.{Rule}
use Rattle.ow_entity.specs.declared.rules.RuleDraft.{RuleDraft}
use Rattle.ow_entity.specs.declared.triggers.Trigger.{Trigger}
use Rattle.ow_tables.specs.Contents.{Change}
use Rattle.ow_tables.specs.Joined.{action_refusal, joined_action, joined_refusal, joined_trigger, rule_at, trigger_at, trigger_refusal}
use Rattle.ow_tables.specs.Refusal.{old_row, put_refusal, rule_refusal}
use Rattle.ow_tables.specs.Rows.{standing}
use Rattle.ow_tables.specs.declared.refusal.TableRefusal.{TableRefusal}
use Rattle.ow_tables.specs.declared.refusal.TableRefusal.TheVariants.{NotFound}
use Rattle.ow_rules.specs.Joins.{IsJoined, PutsJoin}

-- ---- no refusal

first_none : {X : Type 0} (o : Option X) (rest : List (Option X)) → first_some (o ∷ rest) ≡ None → o ≡ None
first_none None rest e = refl
first_none (Some x) rest e = cc

second_none : {X : Type 0} (o p : Option X) (rest : List (Option X)) → first_some (o ∷ p ∷ rest) ≡ None → p ≡ None
second_none None p rest e = first_none p rest e
second_none (Some x) p rest e = cc

test_true : (b : Bool) → cond b None (Some NotFound) ≡ None → b ≡ true
test_true true e = refl
test_true false e = cc

-- ---- what the rule has

-- its name, its trigger and its action, by a draft over an old rule
pub record Has (d : RuleDraft) (old : Option Rule) (r : Rule) : Type 0 where
  pub name : d.name ≡ r.name
  pub trigger : joined_trigger d old ≡ Some r.trigger
  pub action : joined_action d old ≡ Some r.action

or_some : (x : Option FullName) (y : FullName) → option_or x (Some y) ≡ Some (unwrap_or x y)
or_some None y = refl
or_some (Some x) y = refl

over_has : (d : RuleDraft) (old : Rule) (version : ℕ) → Has d (Some old) (rule_over d old version)
over_has d old version = record { name = refl; trigger = or_some d.trigger old.trigger; action = or_some d.action old.action }

or_none : (x : Option FullName) (y : FullName) → x ≡ Some y → option_or x None ≡ Some (unwrap_or x y)
or_none None y e = cc
or_none (Some x) y e = refl

new_has : (d : RuleDraft) (t a : FullName) → d.trigger ≡ Some t → d.action ≡ Some a → Has d None (rule_over d (default_rule d.name t a) FIRST_VERSION)
new_has d t a e f = record { name = refl; trigger = or_none d.trigger t e; action = or_none d.action a f }

inside : (m : Result Rule EntityRefusal) (x r : Rule) → m ≡ Ok x → m ≡ Ok r → x ≡ r
inside m x r e f = cc

made_new : (d : RuleDraft) (t a : Option FullName) (r : Rule) → d.trigger ≡ t → d.action ≡ a → new_rule d t a ≡ Ok r → Has d None r
made_new d None a r e f made = absurd (let no : ⊥ = cc in no)
made_new d (Some t) None r e f made = absurd (let no : ⊥ = cc in no)
made_new d (Some t) (Some a) r e f made = subst (Has d None) (inside (new_rule d (Some t) (Some a)) _ r refl made) (new_has d t a e f)

made_next : (d : RuleDraft) (old r : Rule) (b : Bool) (refusal : EntityRefusal) (version : ℕ) → cond b (Err refusal) (Ok (rule_over d old version)) ≡ Ok r → Has d (Some old) r
made_next d old r true refusal version made = absurd (let no : ⊥ = cc in no)
made_next d old r false refusal version made = subst (Has d (Some old)) (inside (Ok (rule_over d old version)) _ r refl made) (over_has d old version)

made_has : (d : RuleDraft) (old : Option Rule) (r : Rule) → rule_made d old ≡ Ok r → Has d old r
made_has d None r made = made_new d d.trigger d.action r refl refl made
made_has d (Some old) r made = made_next d old r _ _ _ made

-- ---- a row that is a rule

of_result : (m : Result Rule EntityRefusal) (r : Rule) → result_map rows.Rule m ≡ Ok (rows.Rule r) → m ≡ Ok r
of_result (Ok s) r e = let same : s ≡ r = cc in ap Ok same
of_result (Err x) r e = cc

no_action : (m : Result Action EntityRefusal) (r : Rule) → result_map rows.Action m ≡ Ok (rows.Rule r) → ⊥
no_action (Ok a) r e = cc
no_action (Err x) r e = cc

no_package : (m : Result Package EntityRefusal) (r : Rule) → result_map rows.Package m ≡ Ok (rows.Rule r) → ⊥
no_package (Ok a) r e = cc
no_package (Err x) r e = cc

no_trigger : (m : Result Trigger EntityRefusal) (r : Rule) → result_map rows.Trigger m ≡ Ok (rows.Rule r) → ⊥
no_trigger (Ok a) r e = cc
no_trigger (Err x) r e = cc

-- ---- the law

joined : (all : List Row) (d : RuleDraft) (old : Option Rule) (r : Rule) → joined_refusal (standing all) d old ≡ None → Has d old r → IsJoined all r
joined all d old r unrefused has =
    let t : trigger_refusal (standing all) d.name.namespace (joined_trigger d old) ≡ None = first_none _ _ unrefused in
    let a : action_refusal (standing all) d.name.namespace (joined_action d old) ≡ None = second_none _ _ _ unrefused in
    let t2 : trigger_refusal (standing all) r.name.namespace (Some r.trigger) ≡ None =
    (λ i. trigger_refusal (standing all) (sym has.name i).namespace (sym has.trigger i)) ∙ t in
    let a2 : action_refusal (standing all) r.name.namespace (Some r.action) ≡ None =
    (λ i. action_refusal (standing all) (sym has.name i).namespace (sym has.action i)) ∙ a in
    let both = and_parts (bytes_eq r.trigger.namespace r.name.namespace) (is_some (trigger_at (standing all) r.trigger)) (test_true _ t2) in
    record { inside = both.0; trigger = both.1; action = test_true _ a2 }

pub puts_join : PutsJoin
unfolding finished_row
puts_join (drafts.Action d) overwrite all r unrefused made = absurd (no_action (action_made d (as_action (old_row (drafts.Action d) all))) r made)
puts_join (drafts.Package d) overwrite all r unrefused made = absurd (no_package (package_made d (as_package (old_row (drafts.Package d) all))) r made)
puts_join (drafts.Rule d) overwrite all r unrefused made =
    let old = rule_at (standing all) d.name in
    joined all d old r (first_none (rule_refusal (drafts.Rule d) all) _ unrefused) (made_has d old r (of_result (rule_made d old) r made))
puts_join (drafts.Trigger d) overwrite all r unrefused made = absurd (no_trigger (trigger_made d (as_trigger (old_row (drafts.Trigger d) all))) r made)

-- the same for the change that a put makes
pub change_joins : (draft : Draft) (overwrite : Bool) (all : List Row) (made : Result Change TableRefusal) → OnOk made (put_refusal draft overwrite all ≡ None)
    → IfOk made (λ c. finished_row draft (old_row draft all) ≡ Ok c.row) → IfOk made (λ c. (r : Rule) → c.row ≡ rows.Rule r → IsJoined all r)
change_joins draft overwrite all (Ok c) unrefused row = λ r e. puts_join draft overwrite all r unrefused (row ∙ ap Ok e)
change_joins draft overwrite all (Err e) unrefused row = tt
