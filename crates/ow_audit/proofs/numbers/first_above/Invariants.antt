use Rattle.std.proofs.Common.{◌≡◌, drop}
use Rattle.ow_audit.specs.Numbers.{first_above}
use Rattle.ow_audit.proofs.numbers.first_above.Given as goal

abbrev pub invariant-loop-mark : goal.invariant-loop-mark
invariant-loop-mark l = first_above l.counted (drop l.mark-index l.marks) ≡ first_above l.counted l.marks
