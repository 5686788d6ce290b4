use Rattle.ow_counts.proofs.Rooms.{fires_had_room}
use Rattle.ow_counts.proofs.laws.admitted_fires_had_room.Goals as goal

pub returns : goal.returns
returns c = fires_had_room
