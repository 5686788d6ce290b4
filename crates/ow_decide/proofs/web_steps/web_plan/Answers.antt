use Rattle.std.proofs.Common.{◌∙◌, ℕ, true, List, ap}
use Rattle.ow_decide.specs.Calling.{called_plan}
use Rattle.ow_decide.proofs.Results.{if_ok_map}
use Rattle.ow_decide.proofs.web_steps.web_plan.Goals as goal

pub returns-clause-plan : goal.returns-clause-plan
returns-clause-plan c = if_ok_map c.called_plan.result _ _ (λ p h S stands now.
    h S stands now ∙ ap (λ (s : List ℕ). called_plan S s c.args.namespace.now true true c.args.called c.args.given) (c.in-Ok.ensures ∙ c.as_str.ensures.value)) c.called_plan.ensures.plan
