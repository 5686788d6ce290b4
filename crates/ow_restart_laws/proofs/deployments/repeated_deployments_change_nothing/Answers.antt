use Rattle.ow_restart_laws.proofs.DeploymentCalls.{repeated_deployments}
use Rattle.ow_restart_laws.proofs.DeploymentLaws.{repeated_drafts}
use Rattle.ow_restart_laws.proofs.deployments.repeated_deployments_change_nothing.Goals as goal

pub returns-clause-drafts : goal.returns-clause-drafts
returns-clause-drafts g c = repeated_drafts

pub returns-clause-calls : goal.returns-clause-calls
returns-clause-calls g c = repeated_deployments g.P.Keeper.telling
