use Rattle.std.proofs.Common.{◌≡◌}
use Rattle.ow_system.proofs.unjoined.Unjoined.join_ended.Given as goal

abbrev pub invariant-loop : goal.invariant-loop
invariant-loop g l = l.slots.items ≡ l.fn.slots.items
