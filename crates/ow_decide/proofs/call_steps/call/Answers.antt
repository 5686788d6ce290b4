use Rattle.std.proofs.Common.{◌≡◌, ◌∙◌, ◌++◌, Err, Result, refl, subst, sym}
use Rattle.ow_floor.specs.Laws.{Stands}
use Rattle.ow_floor.specs.declared.activations.Plan.{Plan}
use Rattle.ow_http.specs.declared.reason.Reason.{Reason}
use Rattle.ow_decide.specs.Calling.{call_decision, call_plan}
use Rattle.ow_decide.specs.Decision.{held}
use Rattle.ow_decide.specs.Making.{Carries}
use Rattle.ow_decide.specs.declared.step.Step.{Step}
use Rattle.ow_decide.proofs.CallLaws.{call_makes}
use Rattle.ow_decide.proofs.call_steps.call.Goals as goal

pub returns-in_ok-taken-in-Ok-clause-ok : goal.returns-in_ok-taken-in-Ok-clause-ok
returns-in_ok-taken-in-Ok-clause-ok c =
    call_makes c.args.tenants.now c.args.tables.now.rows c.args.counts.now c.args.keeping.now c.args.now c.args.floor.now.now c.taken_plan.new.floor.now c.in-Ok.plan c.in_ok-taken-in-Ok.taken
    (λ S. call_plan S c.args.name.now c.args.params.now) c.called.result (λ S seen. sym c.in-Ok.is ∙ c.in_ok-plan.ensures.plan S c.args.counts.now c.args.keeping.now seen)
    c.in_ok-taken-in-Ok.ensures.ok c.called.ensures.ok

pub returns-in-Err-clause-ok : goal.returns-in-Err-clause-ok
returns-in-Err-clause-ok c = λ S seen.
    let is : Err c.in-Err.reason ≡ call_plan S c.args.name.now c.args.params.now = sym c.in-Err.is ∙ c.in_ok-plan.ensures.plan S c.args.counts.now c.args.keeping.now seen in (
      subst (λ (x : Result Plan Reason). Carries c.telling.result (call_decision S x) S) is
          (subst (λ (s : Step). Carries s (call_decision S (Err c.in-Err.reason)) S) (sym c.telling.ensures) (record { told = refl; changes = refl; waits = refl; moves = refl; commit = (refl, (tt, refl)); others = refl })),
      subst (λ (x : Result Plan Reason). Stands c.args.floor.now.now (held (call_decision S x) ++ S.trace)) is seen.stands,
    )
