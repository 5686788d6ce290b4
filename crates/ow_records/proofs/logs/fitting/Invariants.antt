use Rattle.std.proofs.Common.{◌≡◌, ◌++◌, take, drop}
use Rattle.ow_records.specs.Logs.{fitting}
use Rattle.ow_records.proofs.logs.fitting.Given as goal

abbrev pub invariant-loop-i : goal.invariant-loop-i
invariant-loop-i l = fitting l.room l.items ≡ take l.i l.items ++ fitting l.left (drop l.i l.items)
