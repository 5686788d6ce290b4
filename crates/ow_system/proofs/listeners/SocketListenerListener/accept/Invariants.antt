use Rattle.std.proofs.Common.{◌≤◌}
use Rattle.ow_system.proofs.listeners.SocketListenerListener.accept.Given as goal

abbrev pub invariant-loop : goal.invariant-loop
invariant-loop g l = l.fn.self.faults ≤ l.self.faults
