-- A container of plain code may go from one thread to another: what it read of its code.
use denote.Param.Send.{IsSend, sendable}
use Rattle.std.proofs.Crossing.{crosses}
use Rattle.ow_value.proofs.Crossing.{params_send, str_send, vals_send, whole_send}
use Rattle.ow_runners.specs.contracts.plain_cases.PlainCase as PlainCase
use Rattle.ow_runners.specs.contracts.plain_cases.PlainCases as PlainCases
use Rattle.ow_runners.specs.contracts.plain_runner.PlainContainer as PlainContainer

case_send : IsSend (PlainCase.the_field).row
case_send = search (sendable, crosses, params_send, vals_send, str_send, whole_send) depth 50 fits 20000

cases_send : IsSend PlainCases.the_row
cases_send = search (sendable, crosses, str_send, case_send) depth 50 fits 20000

pub container_send : IsSend (PlainContainer.the_field).row
container_send = search (sendable, crosses, cases_send) depth 50 fits 20000
