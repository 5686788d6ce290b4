use Rattle.std.proofs.Common.{◌≡◌, length}
use Rattle.ow_whisk.proofs.serving.runners_of.Given as goal

abbrev pub invariant-loop : goal.invariant-loop
invariant-loop g l = length l.runners.items ≡ l.counter
