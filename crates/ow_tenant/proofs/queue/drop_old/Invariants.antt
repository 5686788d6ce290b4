use Rattle.std.proofs.Common.{◌≡◌, ◌≤◌}
use Rattle.std.specs.VecDeque.{deque_capacity, deque_len}
use Rattle.ow_tenant.specs.Queue.{LetsGo}
use Rattle.ow_tenant.proofs.queue.drop_old.Given as goal

abbrev pub invariant-loop-first : goal.invariant-loop-first
invariant-loop-first l = record {
  lets_go : LetsGo l.now l.fn.moments.items l.moments.items;
  capacity : deque_capacity l.moments ≡ deque_capacity l.fn.moments;
  fewer : deque_len l.moments ≤ deque_len l.fn.moments;
}

abbrev pub decreases-loop-first : goal.decreases-loop-first
decreases-loop-first l = deque_len l.moments
