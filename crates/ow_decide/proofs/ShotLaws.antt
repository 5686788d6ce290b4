-- The items of a fire are a chain.
use Rattle.std.proofs.Common.{◌≡◌, ◌++◌, ◌+◌, ◌∙◌, ℕ, Bool, true, false, if◌then◌else◌, List, Option, Some, None, Result, Ok, Err, IfOk, refl, ap, arith, subst}
use Rattle.std.specs.Prelude.{count_by, nat_le}
use Rattle.ow_value.specs.Find.{merge}
use Rattle.ow_value.specs.Value.{Pairs}
use Rattle.ow_names.specs.declared.full.FullName.{FullName}
use Rattle.ow_entity.specs.Finish.{as_trigger}
use Rattle.ow_entity.specs.declared.kinds.EntityKind.TheVariants as kinds
use Rattle.ow_entity.specs.declared.rows.Row.{Row}
use Rattle.ow_entity.specs.declared.rows.Row.TheVariants as rows
use Rattle.ow_entity.specs.declared.rules.Rule.{Rule}
use Rattle.ow_entity.specs.declared.triggers.Trigger.{Trigger}
use Rattle.ow_records.specs.declared.fires.Fire.{Fire}
use Rattle.ow_floor.specs.Calls.{IsNext, draw_items}
use Rattle.ow_floor.specs.Trace.{Trace, fired}
use Rattle.ow_floor.specs.declared.activations.Plan.{Plan}
use Rattle.ow_tables.specs.Rows.{found, standing}
use Rattle.ow_tables.specs.Joined.{trigger_at}
use Rattle.ow_tenant.specs.Tenants.{limits_of}
use Rattle.ow_tenant.specs.declared.limits.NamespaceLimits.{NamespaceLimits}
use Rattle.ow_tenant.specs.declared.refusal.WindowRefusal.TheVariants.{FireLimit}
use Rattle.ow_counts.specs.Counts.{fire_admitted, is_recent_fire}
use Rattle.ow_counts.specs.Counts as counts
use Rattle.ow_counts.specs.declared.refusal.LimitRefusal.{LimitRefusal}
use Rattle.ow_counts.specs.declared.refusal.LimitRefusal.TheVariants.{OfNamespace}
use Rattle.ow_trees.proofs.Each.{each_append}
use Rattle.ow_http.specs.declared.reason.Reason.{Reason}
use Rattle.ow_reads.specs.Reasons.{not_found}
use Rattle.ow_reads.specs.Steps.{or_else}
use Rattle.ow_decide.specs.Calling.{callee, fitting, given_over, is_oversized, next_id, plan_for, plan_items}
use Rattle.ow_decide.specs.Chain.{AreSteps, IsGivenFor, IsShot}
use Rattle.ow_decide.specs.Firing.{after_rules, fire_plan, rule_lines, rule_plan, seeing, shot_items, trigger_for}
use Rattle.ow_decide.specs.Reasons.{too_large}
use Rattle.ow_decide.specs.Sight.{Sight, takes_calls}
use Rattle.ow_decide.proofs.CalleeLaws.{IsAdmitted, IsCalled, callee_so, there_ok, within_so}
use Rattle.ow_decide.proofs.DrivenLaws.{AreFit, IsFit, fit_steps, plan_fit}
use Rattle.ow_decide.proofs.MadeLaws.{after_all, rules_fired, shot_right}
use Rattle.ow_decide.proofs.Results.{if_ok_map, then_from, then_ok}

-- ---- one rule

-- what a rule makes may be accepted
rule_admitted : (S : Sight) (f : Fire) (r : Rule) → IfOk (rule_plan S f r) (IsAdmitted S)
rule_admitted S f r = then_from (IsCalled S) (IsAdmitted S) (callee S r.action f.namespace) _ (callee_so S r.action f.namespace) (λ c called.
    then_ok (IsAdmitted S) (given_over c.effective f.params false) _ (λ merged.
    within_so S (plan_for f.subject None (next_id S c.number) f.namespace c.effective merged) (IsAdmitted S) (record { next = refl; uncaused = refl; formed = refl; called = called }) (λ ok. ok)))

-- so all that it makes may be decided
rule_fit : (S : Sight) (f : Fire) (r : Rule) (plan : Plan) (items : Trace) → rule_plan (seeing items S) f r ≡ Ok plan → AreFit S items S.trace → AreFit S (plan_items (seeing items S) plan ++ items) S.trace
rule_fit S f r plan items is before =
    let ok : IsAdmitted (seeing items S) plan = subst (λ (p : Result Plan Reason). IfOk p (IsAdmitted (seeing items S))) is (rule_admitted (seeing items S) f r) in
    each_append (IsFit S) (plan_items (seeing items S) plan) items S.trace
    (plan_fit S plan (items ++ S.trace) (record { uncaused = ok.uncaused; next = ok.next; admitted = ok.admitted; callee = ok.callee })) before

-- and so may what all rules make
rules_fit : (S : Sight) (f : Fire) (rs : List Rule) → IsNext f.id S.trace → AreFit S (after_rules S f rs (draw_items S.moment f.id)) S.trace
rules_fit S f rs next = after_all S f (λ (items : Trace). AreFit S items S.trace) (rule_fit S f) rs (draw_items S.moment f.id) ((refl, next), tt)

-- ---- the limit of fires

same_fires : (T U : Trace) (namespace : List ℕ) (now : ℕ) → fired T ≡ fired U → counts.fires T namespace now ≡ counts.fires U namespace now
unfolding counts.fires
same_fires T U namespace now same = ap (count_by (is_recent_fire namespace now)) same

abbrev by_count : NamespaceLimits → ℕ → Result (Unit {0}) LimitRefusal
by_count limits n = if nat_le limits.fires n then Err (OfNamespace (FireLimit n limits.fires)) else Ok tt

same_admitted : (T U : Trace) (namespace : List ℕ) (limits : NamespaceLimits) (now : ℕ) → fired T ≡ fired U → fire_admitted T namespace limits now ≡ fire_admitted U namespace limits now
same_admitted T U namespace limits now same = ap (by_count limits) (same_fires T U namespace now same)

-- ---- the whole fire

-- the limit of fires allows it
abbrev pub IsAllowed : Sight → Fire → Type 0
IsAllowed S f = fire_admitted S.trace f.namespace (limits_of f.namespace S.tenants) S.moment ≡ Ok tt

pub shot_steps : (S : Sight) (f : Fire) (rs : List Rule) → IsNext f.id S.trace → IsShot S f → IsAllowed S f → AreSteps S (shot_items S f rs)
shot_steps S f rs next shot allowed =
    let T : Trace = after_rules S f rs (draw_items S.moment f.id) ++ S.trace in
    let before : fired T ≡ fired S.trace = rules_fired S f rs (draw_items S.moment f.id) in
    fit_steps S (shot_items S f rs) (
      (
        shot.at,
        record {
          admitted = same_admitted T S.trace f.namespace (limits_of f.namespace S.tenants) S.moment before ∙ allowed;
          counted = omega (arith, next);
          fire = f;
          lines = rule_lines S f rs (draw_items S.moment f.id);
          made = refl;
          shot = shot;
        },
      ),
      rules_fit S f rs next,
    ) (shot_right S f rs next)

-- ---- what is fired

trigger_row : (o : Option Row) (t : Trigger) → as_trigger o ≡ Some t → o ≡ Some (rows.Trigger t)
trigger_row None t is = cc
trigger_row (Some (rows.Action a)) t is = cc
trigger_row (Some (rows.Package p)) t is = cc
trigger_row (Some (rows.Rule r)) t is = cc
trigger_row (Some (rows.Trigger x)) t is = let same : x ≡ t = cc in ap (λ (y : Trigger). Some (rows.Trigger y)) same

-- there is a trigger of the name
abbrev pub IsThere : Sight → FullName → Trigger → Type 0
IsThere S name t = found kinds.Trigger name S.rows ≡ Some (rows.Trigger t)

pub trigger_there : (S : Sight) (name : FullName) → IfOk (trigger_for S name) (IsThere S name)
trigger_there S name = if_ok_map (trigger_for S name) (λ (t : Trigger). trigger_at (standing S.rows) name ≡ Some t) (IsThere S name) (λ t is. trigger_row (found kinds.Trigger name S.rows) t is)
    (there_ok (trigger_at (standing S.rows) name) not_found)

fits_by : (b : Bool) (merged : Pairs) → IfOk (or_else (if b then None else Some merged) too_large) (λ (ps : Pairs). ps ≡ merged)
fits_by true merged = tt
fits_by false merged = refl

-- a fire under the next id, of a trigger that is there
pub record IsReady (S : Sight) (f : Fire) : Type 0 where
  pub next : IsNext f.id S.trace
  pub shot : IsShot S f

pub plan_ready : (S : Sight) (subject : List ℕ) (name : FullName) (number : ℕ) (t : Trigger) (given : Pairs) → IsThere S name t → IsGivenFor given → IfOk (fire_plan S subject name number t given) (IsReady S)
plan_ready S subject name number t given there source =
    then_from (λ (ps : Pairs). ps ≡ merge t.params given) (IsReady S) (or_else (fitting t.params given) too_large) _ (fits_by (is_oversized (merge t.params given)) (merge t.params given)) (λ params is.
    then_ok (IsReady S) (takes_calls S) _ (λ taken. record {
      next = refl;
      shot = record { name = name; trigger = t; row = there; given = given; source = source; called_so = refl; home_is = refl; at = refl; version = refl; params = is };
    }))
