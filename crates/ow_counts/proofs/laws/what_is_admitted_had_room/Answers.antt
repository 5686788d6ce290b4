use Rattle.ow_counts.proofs.Rooms.{had_room}
use Rattle.ow_counts.proofs.laws.what_is_admitted_had_room.Goals as goal

pub returns : goal.returns
returns c = had_room
