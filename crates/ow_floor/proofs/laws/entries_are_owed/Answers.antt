use Rattle.ow_floor.proofs.Owing.{owed_items, owed_begun, owed_lost, owed_gone, raises_little}
use Rattle.ow_floor.proofs.laws.entries_are_owed.Goals as goal

pub returns : goal.returns
returns c = record { items = owed_items; begun = owed_begun; lost = owed_lost; gone = owed_gone; calls = raises_little }
