use Rattle.std.proofs.Common.{refl}
use Rattle.ow_invoker.proofs.turn.follow.Goals as goal

pub returns-in-Ok-clause-turns : goal.returns-in-Ok-clause-turns
returns-in-Ok-clause-turns g c = (refl, c.in-Ok.ensures.turns)

pub returns-in-Err-clause-turns : goal.returns-in-Err-clause-turns
returns-in-Err-clause-turns g c = c.in-Err.ensures.turns
