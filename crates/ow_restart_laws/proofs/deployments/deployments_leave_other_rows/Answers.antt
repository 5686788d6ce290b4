use Rattle.ow_restart_laws.proofs.DeploymentCalls.{other_rows_left}
use Rattle.ow_restart_laws.proofs.DeploymentLaws.{others_left}
use Rattle.ow_restart_laws.proofs.deployments.deployments_leave_other_rows.Goals as goal

pub returns-clause-drafts : goal.returns-clause-drafts
returns-clause-drafts g c = others_left

pub returns-clause-calls : goal.returns-clause-calls
returns-clause-calls g c = other_rows_left g.P.Keeper.telling
