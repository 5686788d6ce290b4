use Rattle.std.proofs.Common.{◌≡◌, ◌++◌, filter, length}
use Rattle.ow_records.specs.Records.{is_due}
use Rattle.ow_records.proofs.retiring.due_copies.Given as goal

abbrev pub invariant-loop-rest : goal.invariant-loop-rest
invariant-loop-rest l = filter (is_due l.until) l.records ≡ l.copies.items ++ filter (is_due l.until) l.rest

abbrev pub decreases-loop-rest : goal.decreases-loop-rest
decreases-loop-rest l = length l.rest
