use Rattle.std.proofs.Common.{false}
use Rattle.ow_day.specs.Logs.{AreRead}
use Rattle.ow_day.proofs.logs.lines_of.Given as goal

abbrev pub invariant-loop-left : goal.invariant-loop-left
invariant-loop-left l = AreRead false l.count l.bytes l.lines.items l.left l.from

abbrev pub decreases-loop-left : goal.decreases-loop-left
decreases-loop-left l = l.left
