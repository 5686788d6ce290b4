use Rattle.std.proofs.Common.{◌≡◌, ◌+◌, ◌-◌, ◌^◌, min, drop, length}
use Rattle.json.specs.Print.{escape}
use Rattle.ow_value.proofs.measure.quoted_size.Given as goal

abbrev pub invariant-loop-b : goal.invariant-loop-b
invariant-loop-b l = min (l.total + length (escape (drop l.b-index l.b-items))) (2 ^ 64 - 1) ≡ min (length (escape l.b-items) + 1) (2 ^ 64 - 1)
