use denote.Param.Send.{sendable}
use Rattle.ow_serve.proofs.Crossing.{done_send, duty_send}
use Rattle.ow_serve.proofs.leaving.end_all.Goals as goal

pub join-requires-send-T : goal.join-requires-send-T
join-requires-send-T g c κs within = search (sendable, duty_send, c.type_bounds)

pub join-requires-send-T-Done : goal.join-requires-send-T-Done
join-requires-send-T-Done g c κs within = search (sendable, done_send, c.type_bounds)
