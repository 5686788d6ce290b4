use denote.Param.Send.{sendable}
use Rattle.ow_serve.specs.Ended.{Drains}
use Rattle.ow_serve.proofs.Whole.{begins_on, closes_by, has_drained}
use Rattle.ow_serve.proofs.Crossing.{done_send, duty_send}
use Rattle.ow_serve.proofs.leaving.close.Goals as goal

pub returns-clause-closes : goal.returns-clause-closes
returns-clause-closes g c =
    let T = g.C.Clock.tells c.args.service.clock.value in
    let n = c.args.service.notes.notes in
    closes_by (Drains T n) _ _ _ _ _ _ _ _ _ _ _ _ _ c.args.first c.join-joined.result c.end_all-others.result c.all_of-all.result c.join-joined.ensures.joined c.end_all-others.ensures.joined
    c.all_of-all.ensures.peers c.all_of-all.ensures.others (c.leave.ensures.left T n (has_drained c.all_of-all.result c.drain-drained.result (Drains T n c.drain-drained.new.service.notes.notes) c.all_of-all.ensures.drained c.drain-drained.ensures.drained)) c.leave.ensures.none

pub returns-clause-begins : goal.returns-clause-begins
returns-clause-begins g c = begins_on c.args.service.notes.notes c.drain-drained.new.service.notes.notes c.leave.result.end c.leave.result.book c.drain-drained.ensures.first c.leave.ensures.begins

pub join-joined-requires-send-T : goal.join-joined-requires-send-T
join-joined-requires-send-T g c κs within = search (sendable, duty_send, c.type_bounds)

pub join-joined-requires-send-T-Done : goal.join-joined-requires-send-T-Done
join-joined-requires-send-T-Done g c κs within = search (sendable, done_send, c.type_bounds)
