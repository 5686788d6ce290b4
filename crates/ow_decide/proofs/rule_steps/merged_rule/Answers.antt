use Rattle.std.proofs.Common.{◌∙◌, None, Result, Ok, ap, refl, sym}
use Rattle.ow_http.specs.Steps.{◌>>=◌}
use Rattle.ow_http.specs.declared.reason.Reason.{Reason}
use Rattle.ow_decide.specs.Calling.{next_id, plan_for}
use Rattle.ow_decide.specs.Firing.{seeing}
use Rattle.ow_decide.proofs.Results.{if_ok_map}
use Rattle.ow_decide.proofs.rule_steps.merged_rule.Goals as goal

pub returns-in-Ok-Ok-clause-plan : goal.returns-in-Ok-Ok-clause-plan
returns-in-Ok-Ok-clause-plan c = if_ok_map c.next_plan.result _ _ (λ p h S items rs u.
    h (seeing items S) u.stands
    ∙ ap (λ (r : Result (Unit {0}) Reason). r >>= (λ (within : Unit {0}). Ok (plan_for c.args.fire.now.subject None (next_id (seeing items S) c.args.number) c.args.fire.now.namespace c.args.effective c.args.merged)))
    (sym c.in-Ok-Ok.field-0-is ∙ c.in-Ok-Ok.ensures S items rs c.args.floor.now.now c.args.now refl u)) c.next_plan.ensures.plan

pub returns-in-Ok-Err-clause-plan : goal.returns-in-Ok-Err-clause-plan
returns-in-Ok-Err-clause-plan c = λ S items rs u.
    ap (λ (r : Result (Unit {0}) Reason). r >>= (λ (within : Unit {0}). Ok (plan_for c.args.fire.now.subject None (next_id (seeing items S) c.args.number) c.args.fire.now.namespace c.args.effective c.args.merged)))
    (sym c.in-Ok-Err.field-0-is ∙ c.in-Ok-Err.ensures S items rs c.args.floor.now.now c.args.now refl u)
