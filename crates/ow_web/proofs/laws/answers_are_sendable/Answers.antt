use Rattle.ow_web.proofs.Sendable.{answers_sendable}
use Rattle.ow_web.proofs.laws.answers_are_sendable.Goals as goal

pub returns : goal.returns
returns c = answers_sendable
