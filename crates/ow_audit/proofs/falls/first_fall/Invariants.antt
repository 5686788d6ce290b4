use Rattle.std.proofs.Common.{◌≡◌, drop}
use Rattle.ow_audit.specs.Places.{fall_behind, first_fall}
use Rattle.ow_audit.proofs.falls.first_fall.Given as goal

abbrev pub invariant-loop-it : goal.invariant-loop-it
invariant-loop-it l = fall_behind l.last (drop l.it-index l.entries) ≡ first_fall l.entries
