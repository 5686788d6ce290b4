use Rattle.ow_isolation.proofs.Archived.{archived_unseen}
use Rattle.ow_isolation.proofs.laws.archived_records_are_unseen.Goals as goal

pub returns : goal.returns
returns c = archived_unseen
