use Rattle.std.proofs.Common.{◌≡◌, sum_by, take}
use Rattle.ow_pool.specs.Rules.{kept_share}
use Rattle.ow_pool.proofs.rules.kept.Given as goal

abbrev pub invariant-loop-i : goal.invariant-loop-i
invariant-loop-i l = l.sum ≡ sum_by kept_share (take l.i l.slots)
