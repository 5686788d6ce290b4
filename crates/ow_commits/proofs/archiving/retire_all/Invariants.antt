use Rattle.std.proofs.Common.{◌≡◌, ◌+◌, ◌++◌, drop, map}
use Rattle.ow_commits.specs.Archiving.{retire_of}
use Rattle.ow_commits.specs.Keeping.{done_bytes}
use Rattle.ow_commits.proofs.archiving.retire_all.Given as goal

-- what was gathered, and what is left to be, is the whole
abbrev pub invariant-loop-ended : goal.invariant-loop-ended
invariant-loop-ended l = record {
  changes : l.gathered.changes.items ++ map retire_of (drop l.ended-index l.due) ≡ l.initial.gathered.changes.items ++ map retire_of l.due;
  bytes : l.gathered.bytes + done_bytes l.due ≡ l.initial.gathered.bytes + done_bytes (drop l.ended-index l.due);
}
