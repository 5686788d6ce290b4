use Rattle.std.proofs.Common.{◌∙◌, ◌+◌, ℕ, None, Ok, ap}
use Rattle.ow_decide.specs.Calling.{plan_for}
use Rattle.ow_decide.proofs.rule_steps.next_plan.Goals as goal

pub returns-clause-plan : goal.returns-clause-plan
returns-clause-plan c = λ S stands.
    let next = c.in-Some.ensures.1 ∙ ap (λ (n : ℕ). n + 1) (c.last.ensures.trace S.trace stands) in
    ap Ok (c.in_ok-plan.ensures
    ∙ ap (λ (n : ℕ). plan_for c.args.fire.now.subject None (record { namespace = c.args.number; count = n }) c.args.fire.now.namespace c.args.effective c.args.merged) next)
