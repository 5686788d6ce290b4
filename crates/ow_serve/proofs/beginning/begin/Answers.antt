use denote.Param.Send.{sendable}
use Rattle.ow_serve.proofs.Begun.{started_if, started_one}
use Rattle.ow_serve.proofs.Crossing.{done_send, duty_send}
use Rattle.ow_serve.proofs.beginning.begin.Goals as goal
use Rattle.ow_serve.proofs.beginning.begin.Goals.{in-Ran, in-Started}

pub begin-requires-send-T : goal.begin-requires-send-T
begin-requires-send-T g c κs within = search (sendable, duty_send, c.type_bounds)

pub begin-requires-send-T-Done : goal.begin-requires-send-T-Done
begin-requires-send-T-Done g c κs within = search (sendable, done_send, c.type_bounds)

pub returns-clause-begins : goal.returns-clause-begins
returns-clause-begins g c =
    elim c.match-begin.branch [
      | in-Started w ↦ started_if _ _ _ _ w.result-is (started_one _ c.in-Ok.duty c.args.work _ _ w.in-Started.ensures.0 c.in-Ok.ensures.duty)
      | in-Ran w ↦ started_if _ _ _ _ w.result-is tt
    ]
