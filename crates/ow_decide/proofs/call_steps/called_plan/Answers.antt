use Rattle.std.proofs.Common.{◌∙◌, Result, ap, sym}
use Rattle.ow_http.specs.Steps.{◌>>=◌}
use Rattle.ow_http.specs.declared.reason.Reason.{Reason}
use Rattle.ow_value.specs.Value.{Pairs}
use Rattle.ow_decide.specs.Calling.{merged_plan}
use Rattle.ow_decide.proofs.Results.{if_ok_map}
use Rattle.ow_decide.proofs.call_steps.called_plan.Goals as goal

pub returns-in-Ok-Ok-clause-plan : goal.returns-in-Ok-Ok-clause-plan
returns-in-Ok-Ok-clause-plan c = if_ok_map c.merged_plan.result _ _ (λ p h S stands now.
    h S stands now ∙ ap (λ (r : Result Pairs Reason). r >>= (λ (merged : Pairs). merged_plan S c.args.subject.now c.args.namespace.now c.args.blocking c.args.called merged))
    (sym c.in-Ok-Ok.field-0-is ∙ c.in-Ok-Ok.ensures)) c.merged_plan.ensures.plan
