use Rattle.std.proofs.Common.{◌≡◌, drop}
use Rattle.ow_floor.specs.Ends.{IsSweeping}
use Rattle.ow_floor.proofs.ends.sweep.Given as goal

abbrev pub invariant-loop-i : goal.invariant-loop-i
invariant-loop-i l = record {
  made : IsSweeping l.at l.fn.lists.now l.lists.now (drop l.i l.fn.lists.now.runs) l.fn.moves l.moves;
  past : l.lists.past ≡ l.fn.lists.past;
}
