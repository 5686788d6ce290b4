use Rattle.std.proofs.Common.{◌≡◌}
use Rattle.ow_floor.specs.Laws.{Stands}
use Rattle.ow_floor.specs.Trace.{Trace}
use Rattle.ow_trees.specs.Driving.{IsFollowing}
use Rattle.ow_trees.proofs.driver.follow.Given as goal

abbrev pub invariant-loop-left : goal.invariant-loop-left
invariant-loop-left g l = record {
  follows : (T : Trace) → Stands l.fn.floor.now T → IsFollowing (g.L.Lookup.found l.rows) l.at l.fn.first l.left l.next T l.floor.now l.fn.moves l.moves;
  firing : l.floor.now.firing ≡ l.fn.floor.now.firing;
  before : l.floor.before ≡ l.fn.floor.before;
}

abbrev pub decreases-loop-left : goal.decreases-loop-left
decreases-loop-left g l = l.left
