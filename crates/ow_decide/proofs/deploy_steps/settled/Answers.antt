use Rattle.std.proofs.Common.{◌∙◌, sym, ap}
use Rattle.ow_decide.specs.Deployment.{DeploymentView}
use Rattle.ow_decide.specs.Sight.{is_store_full}
use Rattle.ow_decide.proofs.Results.{if_ok_map}
use Rattle.ow_decide.proofs.StoredLaws.{full_refused, put_stored}
use Rattle.ow_decide.proofs.deploy_steps.settled.Goals as goal

pub returns-then-is_store_full-clause-ok : goal.returns-then-is_store_full-clause-ok
returns-then-is_store_full-clause-ok c = λ S b stands gathered.
    full_refused S b c.args.work c.refused.result c.refused.ensures
    (sym c.if-is_store_full.true ∙ (c.is_store_full.ensures ∙ ap is_store_full (c.bytes.ensures ∙ ap (λ (d : DeploymentView). d.commit.bytes) c.work.view_is))) stands gathered

pub returns-in-Ok-clause-ok : goal.returns-in-Ok-clause-ok
returns-in-Ok-clause-ok c = if_ok_map c.step.result _ _ (λ s is S b stands gathered.
    put_stored S b c.args.work s is
    (sym c.if-is_store_full.false ∙ (c.is_store_full.ensures ∙ ap is_store_full (c.bytes.ensures ∙ ap (λ (d : DeploymentView). d.commit.bytes) c.work.view_is))) stands gathered) c.step.ensures.ok
