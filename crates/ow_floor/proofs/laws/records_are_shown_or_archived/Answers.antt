use Rattle.ow_floor.proofs.Archives.{shown_or_archived}
use Rattle.ow_floor.proofs.laws.records_are_shown_or_archived.Goals as goal

pub returns : goal.returns
returns c = shown_or_archived
