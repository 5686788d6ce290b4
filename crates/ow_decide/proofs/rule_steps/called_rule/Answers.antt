use Rattle.std.proofs.Common.{◌∙◌, Result, ap, sym}
use Rattle.ow_http.specs.Steps.{◌>>=◌}
use Rattle.ow_http.specs.declared.reason.Reason.{Reason}
use Rattle.ow_value.specs.Value.{Pairs}
use Rattle.ow_decide.specs.Firing.{merged_rule, seeing}
use Rattle.ow_decide.proofs.Results.{if_ok_map}
use Rattle.ow_decide.proofs.rule_steps.called_rule.Goals as goal

pub returns-in-Ok-Ok-clause-plan : goal.returns-in-Ok-Ok-clause-plan
returns-in-Ok-Ok-clause-plan c = if_ok_map c.merged_rule.result _ _ (λ p h S items rs u.
    h S items rs u ∙ ap (λ (r : Result Pairs Reason). r >>= (λ (merged : Pairs). merged_rule (seeing items S) c.args.fire.now c.args.called merged))
    (sym c.in-Ok-Ok.field-0-is ∙ c.in-Ok-Ok.ensures)) c.merged_rule.ensures.plan
