use Rattle.std.proofs.Common.{◌∙◌, ◌+◌, ℕ, ap, sym}
use Rattle.ow_decide.specs.Calling.{until_of}
use Rattle.ow_decide.proofs.PlanLaws.{merged_so, planned_so}
use Rattle.ow_decide.proofs.call_steps.merged_plan.Goals as goal

pub returns-clause-plan : goal.returns-clause-plan
returns-clause-plan c = λ S stands now.
    merged_so S c.args.subject.now c.args.namespace.now c.args.blocking (record { number = c.args.number; effective = c.args.effective }) c.args.merged c.in_ok-plan.plan
    (sym (c.is_draining.ensures.trace S.trace stands) ∙ c.if-is_draining.false)
    (planned_so S c.args.subject.now c.args.namespace.now c.args.blocking (record { number = c.args.number; effective = c.args.effective }) c.args.merged c.in_ok-plan.plan c.in_ok-until.until c.args.now.at c.in-Some.count
    now (c.in_ok-until.ensures ∙ ap (until_of c.args.now.at c.args.blocking) c.get.ensures) (c.in-Some.ensures.1 ∙ ap (λ (n : ℕ). n + 1) (c.last.ensures.trace S.trace stands)) c.in_ok-plan.ensures)
