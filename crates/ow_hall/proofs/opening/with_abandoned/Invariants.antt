use Rattle.std.proofs.Common.{◌≡◌, ◌++◌, drop}
use Rattle.ow_commits.specs.Opening.{abandoned}
use Rattle.ow_hall.proofs.opening.with_abandoned.Given as goal

abbrev pub invariant-loop-activation : goal.invariant-loop-activation
invariant-loop-activation l = l.records.items ++ abandoned l.at (drop l.activation-index l.left) ≡ l.initial.records.items ++ abandoned l.at l.left
