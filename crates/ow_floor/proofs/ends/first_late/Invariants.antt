use Rattle.std.proofs.Common.{drop}
use Rattle.ow_floor.specs.Ends.{IsSeeking}
use Rattle.ow_floor.proofs.ends.first_late.Given as goal

abbrev pub invariant-loop-i : goal.invariant-loop-i
invariant-loop-i l = IsSeeking l.at l.lists.now (drop l.i l.lists.now.runs)
