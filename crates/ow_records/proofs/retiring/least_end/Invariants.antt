use Rattle.std.proofs.Common.{◌≤◌, ℕ, length}
use Rattle.ow_records.specs.Order.{AreFrom}
use Rattle.ow_records.proofs.retiring.least_end.Given as goal

abbrev pub invariant-loop-rest : goal.invariant-loop-rest
invariant-loop-rest l = (moment : ℕ) → moment ≤ l.least → AreFrom moment l.rest → AreFrom moment l.records

abbrev pub decreases-loop-rest : goal.decreases-loop-rest
decreases-loop-rest l = length l.rest
