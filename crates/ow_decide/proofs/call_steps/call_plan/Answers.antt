use Rattle.std.proofs.Common.{◌∙◌, false, List, Result, ap, ℕ}
use Rattle.ow_http.specs.Steps.{◌>>=◌}
use Rattle.ow_http.specs.declared.reason.Reason.{Reason}
use Rattle.ow_reads.specs.Tenants.{office}
use Rattle.ow_decide.specs.Calling.{invocation_plan}
use Rattle.ow_decide.proofs.Results.{if_ok_map}
use Rattle.ow_decide.proofs.call_steps.call_plan.Goals as goal

pub returns-clause-plan : goal.returns-clause-plan
returns-clause-plan c = if_ok_map c.invocation_plan.result _ _ (λ p h S k b seen.
    h S k b seen
    ∙ (ap (λ (s : List ℕ). invocation_plan S s c.args.name.now.namespace false c.args.name.now c.args.params.now) c.in_ok-subject.ensures
    ∙ ap (λ (r : Result (Unit {0}) Reason). r >>= (λ (room : Unit {0}). invocation_plan S office c.args.name.now.namespace false c.args.name.now c.args.params.now)) (c.in_default.ensures S seen.counted)))
    c.invocation_plan.ensures.plan
