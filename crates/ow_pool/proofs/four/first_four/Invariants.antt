use Rattle.std.proofs.Common.{◌≡◌, ◌≤◌, length, take, drop}
use Rattle.ow_pool.specs.Candidates.{candidates_from}
use Rattle.ow_pool.specs.Four.{IsFilled, items}
use Rattle.ow_pool.proofs.four.first_four.Given as goal

abbrev pub invariant-loop-i : goal.invariant-loop-i
invariant-loop-i l = record { within : l.i ≤ length l.slots; made : items l.four ≡ take 4 (candidates_from l.i (drop l.i l.slots)); filled : IsFilled l.four }

abbrev pub decreases-loop-i : goal.decreases-loop-i
decreases-loop-i l = l.i
