use Rattle.std.proofs.Common.{ℕ, List}
use Rattle.ow_day.specs.Logs.{AreRead}
use Rattle.ow_day.proofs.logs.lines_end.Given as goal

abbrev pub invariant-loop-left : goal.invariant-loop-left
invariant-loop-left l = (done : List (List ℕ)) × AreRead l.more l.count l.bytes done l.left l.from

abbrev pub decreases-loop-left : goal.decreases-loop-left
decreases-loop-left l = l.left
