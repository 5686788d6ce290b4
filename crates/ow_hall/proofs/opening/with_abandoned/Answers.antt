use Rattle.std.proofs.Common.{arith}
use Rattle.std.proofs.lemmas.Grind.{common_steps}
use Rattle.ow_hall.proofs.opening.with_abandoned.Goals as goal

pub loop-activation-preserved : goal.loop-activation-preserved
loop-activation-preserved c = grind (arith, common_steps)
