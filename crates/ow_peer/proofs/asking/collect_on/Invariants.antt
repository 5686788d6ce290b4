use Rattle.std.proofs.Common.{◌≡◌}
use Rattle.ow_peer.proofs.asking.collect_on.Given as goal

abbrev pub invariant-loop : goal.invariant-loop
invariant-loop g l = l.notes.notes ≡ l.fn.notes.notes
