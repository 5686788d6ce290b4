use Rattle.std.proofs.Common.{◌≡◌, ◌++◌, drop}
use Rattle.ow_decide.specs.Opening.{abandoned_told}
use Rattle.ow_hall.proofs.opening.abandoned_told.Given as goal

abbrev pub invariant-loop-activation : goal.invariant-loop-activation
invariant-loop-activation l = l.told.items ++ abandoned_told (drop l.activation-index l.left) ≡ abandoned_told l.left
