use Rattle.ow_commits.proofs.Resuming.{ids_known, may_be_resumed, not_builtin}
use Rattle.ow_commits.proofs.laws.kept_rows_may_be_resumed.Goals as goal

pub returns-clause-resumed : goal.returns-clause-resumed
returns-clause-resumed c = may_be_resumed

pub returns-clause-ids : goal.returns-clause-ids
returns-clause-ids c = ids_known

pub returns-clause-entities : goal.returns-clause-entities
returns-clause-entities c = not_builtin
