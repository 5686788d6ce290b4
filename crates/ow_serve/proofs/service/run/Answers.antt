use denote.Param.Send.{sendable}
use Rattle.ow_serve.proofs.Crossing.{done_send, duty_send}
use Rattle.ow_serve.proofs.service.run.Goals as goal

pub new-crew-requires-send-T : goal.new-crew-requires-send-T
new-crew-requires-send-T g c κs within = search (sendable, duty_send, c.type_bounds)

pub new-crew-requires-send-T-Done : goal.new-crew-requires-send-T-Done
new-crew-requires-send-T-Done g c κs within = search (sendable, done_send, c.type_bounds)

pub faults-requires-2-send-T : goal.faults-requires-2-send-T
faults-requires-2-send-T g c κs within = search (sendable, duty_send, c.type_bounds)

pub faults-requires-2-send-T-Done : goal.faults-requires-2-send-T-Done
faults-requires-2-send-T-Done g c κs within = search (sendable, done_send, c.type_bounds)
