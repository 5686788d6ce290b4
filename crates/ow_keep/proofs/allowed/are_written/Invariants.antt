use Rattle.std.proofs.Common.{◌≡◌, drop}
use Rattle.ow_keep.specs.Allowed.{are_written}
use Rattle.ow_keep.proofs.allowed.are_written.Given as goal

abbrev pub invariant-loop-name : goal.invariant-loop-name
invariant-loop-name l = are_written l.here (drop l.name-index l.names) ≡ are_written l.here l.names
