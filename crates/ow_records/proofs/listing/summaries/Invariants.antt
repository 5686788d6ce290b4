use Rattle.std.proofs.Common.{◌≡◌, ◌++◌, length, map}
use Rattle.std.specs.Prelude.{reverse}
use Rattle.ow_value.specs.View.{views}
use Rattle.ow_records.specs.Written.{summary_value}
use Rattle.ow_records.proofs.listing.summaries.Given as goal

abbrev pub invariant-loop-rest : goal.invariant-loop-rest
invariant-loop-rest l = map summary_value (reverse l.records) ≡ views l.shown.items ++ map summary_value (reverse l.rest)

abbrev pub decreases-loop-rest : goal.decreases-loop-rest
decreases-loop-rest l = length l.rest
