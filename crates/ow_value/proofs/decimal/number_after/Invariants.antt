use Rattle.std.proofs.Common.{◌≡◌, length}
use Rattle.ow_value.specs.Decimal.{number_after}
use Rattle.ow_value.proofs.decimal.number_after.Given as goal

abbrev pub invariant-loop-rest : goal.invariant-loop-rest
invariant-loop-rest l = number_after l.n l.rest ≡ number_after 0 l.text

abbrev pub decreases-loop-rest : goal.decreases-loop-rest
decreases-loop-rest l = length l.rest
