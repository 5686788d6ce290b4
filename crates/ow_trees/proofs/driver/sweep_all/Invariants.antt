use Rattle.std.proofs.Common.{◌≡◌, ◌-◌}
use Rattle.ow_floor.specs.Laws.{Stands}
use Rattle.ow_floor.specs.Trace.{Trace}
use Rattle.ow_trees.specs.Driving.{IsSweeping}
use Rattle.ow_trees.proofs.driver.sweep_all.Given as goal

abbrev pub invariant-loop-late : goal.invariant-loop-late
invariant-loop-late g l = record {
  sweeps : (T : Trace) → Stands l.fn.floor.now T → IsSweeping (g.L.Lookup.found l.rows) l.at l.late T l.floor.now l.fn.moves l.moves;
  before : l.floor.before ≡ l.fn.floor.before;
}

abbrev pub decreases-loop-late : goal.decreases-loop-late
decreases-loop-late g l = l.most - l.late
