use Rattle.ow_web.proofs.Sendable.{replies_sendable}
use Rattle.ow_web.proofs.laws.replies_are_sendable.Goals as goal

pub returns : goal.returns
returns c = replies_sendable
