use Rattle.std.proofs.Common.{Err, Result, refl, subst, sym}
use Rattle.ow_floor.specs.declared.activations.Plan.{Plan}
use Rattle.ow_http.specs.declared.reason.Reason.{Reason}
use Rattle.ow_decide.specs.Calling.{called_decision}
use Rattle.ow_decide.specs.Making.{Carries, IsTaken}
use Rattle.ow_decide.specs.declared.commits.Made.{Made}
use Rattle.ow_decide.specs.declared.step.Step.{Step}
use Rattle.ow_decide.proofs.Results.{if_ok_map}
use Rattle.ow_decide.proofs.call_steps.called.Goals as goal

pub returns-in-Ok-clause-ok : goal.returns-in-Ok-clause-ok
returns-in-Ok-clause-ok c = if_ok_map c.happened.result _ _ (λ s h S plan v taken.
    let is = subst (λ (x : Result Made Reason). IsTaken x plan S v) c.in-Ok.is taken in
    subst (λ (r : Result Plan Reason). Carries s (called_decision S r) S) (sym is.0) (h S plan is.1.0)) c.happened.ensures.ok

pub returns-in-Err-clause-ok : goal.returns-in-Err-clause-ok
returns-in-Err-clause-ok c = λ S plan v taken.
    let is = subst (λ (x : Result Made Reason). IsTaken x plan S v) c.in-Err.is taken in
    subst (λ (r : Result Plan Reason). Carries c.telling.result (called_decision S r) S) (sym is.0)
    (subst (λ (s : Step). Carries s (called_decision S (Err c.in-Err.reason)) S) (sym c.telling.ensures) (record { told = refl; changes = refl; waits = refl; moves = refl; commit = (refl, (tt, refl)); others = refl }))
