use Rattle.std.proofs.Common.{◌≡◌, drop}
use Rattle.ow_commits.specs.Keeping.{bytes_at}
use Rattle.ow_commits.proofs.ends.bytes_at.Given as goal

abbrev pub invariant-loop-row : goal.invariant-loop-row
invariant-loop-row l = bytes_at l.id (drop l.row-index l.opens) ≡ bytes_at l.id l.opens
