use Rattle.ow_restart_laws.proofs.UnchangedLaws.{unchanged_equal}
use Rattle.ow_restart_laws.proofs.deployments.unchanged_rows_are_equal.Goals as goal

pub returns : goal.returns
returns c = unchanged_equal
