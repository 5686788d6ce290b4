use Rattle.std.proofs.Common.{◌∙◌, ap}
use Rattle.ow_floor.proofs.Results.{on_more}
use Rattle.ow_decide.specs.Deploying.{Progress}
use Rattle.ow_decide.proofs.GatherLaws.{counted_changes, counted_rows, gathered_same, stays_then}
use Rattle.ow_decide.proofs.deploy_steps.Deployment.put_ready.Goals as goal

pub returns-clause-commit : goal.returns-clause-commit
returns-clause-commit c = on_more c.count.result _ _ (λ put.
    stays_then c.args.self.now c.take.new.self c.count.new.self c.in_ok-take.ensures.commit
    (gathered_same c.take.new.self c.count.new.self (ap (λ (p : Progress). p.rows) put ∙ counted_rows _ _) (ap (λ (p : Progress). p.changes) put ∙ counted_changes _ _) c.count.ensures.rest.0)) c.count.ensures.put
