use denote.Param.Send.{sendable}
use Rattle.std.proofs.Crossing.{crosses}
use Rattle.ow_whisk.proofs.Crossing.{file_keeper_send}
use Rattle.ow_whisk.proofs.main.Goals as goal

pub ended-store-requires-send-P : goal.ended-store-requires-send-P
ended-store-requires-send-P c κs = search (sendable, crosses, file_keeper_send) depth 50 fits 20000
