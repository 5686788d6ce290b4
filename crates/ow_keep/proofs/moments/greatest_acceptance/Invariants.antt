use Rattle.std.proofs.Common.{◌≡◌, max, drop}
use Rattle.ow_keep.specs.Moments.{greatest_acceptance}
use Rattle.ow_keep.proofs.moments.greatest_acceptance.Given as goal

abbrev pub invariant-loop-activation : goal.invariant-loop-activation
invariant-loop-activation l = max l.greatest (greatest_acceptance (drop l.activation-index l.activations)) ≡ greatest_acceptance l.activations
