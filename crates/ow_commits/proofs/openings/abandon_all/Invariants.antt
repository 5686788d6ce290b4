use Rattle.std.proofs.Common.{◌≡◌, ◌+◌, ◌++◌, drop}
use Rattle.std.specs.List.{flat_map}
use Rattle.ow_commits.specs.Commits.{end_changes}
use Rattle.ow_commits.specs.Keeping.{done_bytes}
use Rattle.ow_commits.specs.Opening.{abandoned, opens_bytes}
use Rattle.ow_commits.proofs.openings.abandon_all.Given as goal

-- what was gathered, and what is left to be, is the whole
abbrev pub invariant-loop-activation : goal.invariant-loop-activation
invariant-loop-activation l = record {
  changes : l.gathered.changes.items ++ flat_map end_changes (abandoned l.at (drop l.activation-index l.unrecorded)) ≡ l.initial.gathered.changes.items ++ flat_map end_changes (abandoned l.at l.unrecorded);
  bytes : l.gathered.bytes + opens_bytes l.unrecorded + done_bytes (abandoned l.at (drop l.activation-index l.unrecorded))
      ≡ l.initial.gathered.bytes + done_bytes (abandoned l.at l.unrecorded) + opens_bytes (drop l.activation-index l.unrecorded);
}
