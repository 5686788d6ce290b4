use Rattle.std.proofs.Common.{◌≡◌, sum_by, take}
use Rattle.ow_pool.proofs.Sums.{size}
use Rattle.ow_pool.proofs.rules.held.Given as goal

abbrev pub invariant-loop-i : goal.invariant-loop-i
invariant-loop-i l = l.sum ≡ sum_by size (take l.i l.slots)
