use Rattle.std.proofs.Common.{◌∙◌, ◌+◌, ℕ, ap, sym}
use Rattle.ow_value.specs.Value.{Pairs}
use Rattle.ow_decide.specs.Calling.{fitting}
use Rattle.ow_decide.proofs.FireLaws.{planned_fire}
use Rattle.ow_decide.proofs.fire_steps.fire_plan.Goals as goal

pub returns-clause-plan : goal.returns-clause-plan
returns-clause-plan c = λ S stands now.
    planned_fire S c.args.subject.now c.args.name.now c.args.number c.args.trigger.now c.args.given.now c.in-Some.params c.in_ok-fire.fire c.args.now.at c.in-Some-checked_add.count
    (sym c.in-Some.is ∙ (c.in_ok-params.ensures ∙ ap (λ (own : Pairs). fitting own c.args.given.now) c.get.ensures.value)) (sym (c.is_draining.ensures.trace S.trace stands) ∙ c.if-is_draining.false) now
    (c.in-Some-checked_add.ensures.1 ∙ ap (λ (n : ℕ). n + 1) (c.last.ensures.trace S.trace stands)) c.in_ok-fire.ensures
