use Rattle.std.proofs.Common.{◌≡◌, ◌++◌, length}
use Rattle.ow_serve.specs.Peers.{filled}
use Rattle.ow_serve.proofs.closing.in_order.Given as goal

abbrev pub invariant-loop-seat : goal.invariant-loop-seat
invariant-loop-seat g l = l.all.items ++ filled l.seats.items l.joined.items ≡ filled l.fn.seats.items l.fn.joined.items

abbrev pub decreases-loop-seat : goal.decreases-loop-seat
decreases-loop-seat g l = length l.seats.items
