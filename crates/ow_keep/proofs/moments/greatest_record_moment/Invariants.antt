use Rattle.std.proofs.Common.{◌≡◌, max, drop}
use Rattle.ow_keep.specs.Moments.{greatest_record_moment}
use Rattle.ow_keep.proofs.moments.greatest_record_moment.Given as goal

abbrev pub invariant-loop-ended : goal.invariant-loop-ended
invariant-loop-ended l = max l.greatest (greatest_record_moment (drop l.ended-index l.records)) ≡ greatest_record_moment l.records
