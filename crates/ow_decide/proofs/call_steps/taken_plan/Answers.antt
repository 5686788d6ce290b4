use Rattle.std.proofs.Common.{◌≡◌, ◌∙◌, ℕ, Ok, Err, subst, sym}
use Rattle.ow_floor.specs.Laws.{Stands}
use Rattle.ow_floor.specs.View.{Shown}
use Rattle.ow_decide.specs.Making.{admits_made}
use Rattle.ow_decide.proofs.FireLaws.{back_to}
use Rattle.ow_decide.proofs.PlanLaws.{plan_so}
use Rattle.ow_decide.proofs.call_steps.taken_plan.Goals as goal

pub returns-in-Ok-clause-ok : goal.returns-in-Ok-clause-ok
returns-in-Ok-clause-ok c = λ S seen.
    let made = c.in_ok-made.ensures.made S c.args.tenants.now c.args.counts.now seen in (
      sym (plan_so S c.args.plan c.in_ok-made.made.commit.bytes c.within_limits-limit.result (Ok tt) made.bytes (c.within_limits-limit.ensures S seen.tenants seen.stands.sound seen.moment seen.counts)
          (subst (λ (n : ℕ). Ok tt ≡ admits_made n c.within_limits-limit.result) c.bytes.ensures c.in-Ok.ensures)),
      (made, c.in_ok-made.ensures.ok S c.args.tenants.now c.args.counts.now seen),
    )

pub returns-in-Err-clause-ok : goal.returns-in-Err-clause-ok
returns-in-Err-clause-ok c = λ S seen.
    let made = c.in_ok-made.ensures.made S c.args.tenants.now c.args.counts.now seen in (
      sym (plan_so S c.args.plan c.in_ok-made.made.commit.bytes c.within_limits-limit.result (Err c.in-Err.reason) made.bytes (c.within_limits-limit.ensures S seen.tenants seen.stands.sound seen.moment seen.counts)
          (subst (λ (n : ℕ). Err c.in-Err.reason ≡ admits_made n c.within_limits-limit.result) c.bytes.ensures c.in-Err.ensures)),
      subst (λ (v : Shown). Stands v S.trace) (sym (back_to _ c.args.floor.now.now c.back.new.self.now (c.made_plan.ensures.before ∙ c.requires.held) c.back.ensures.now)) seen.stands,
    )
