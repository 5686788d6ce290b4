use Rattle.std.proofs.Common.{◌≡◌, map, take}
use Rattle.ow_value.specs.View.{views}
use Rattle.ow_entity.specs.Written.{summary_value}
use Rattle.ow_tables.proofs.listing.summaries.Given as goal

abbrev pub invariant-loop-row : goal.invariant-loop-row
invariant-loop-row l = views l.shown.items ≡ map summary_value (take l.row-index l.rows)
