use Rattle.std.proofs.Common.{◌-◌, length}
use Rattle.ow_traits.proofs.row_edits.+rows_below.Given as goal

abbrev pub decreases-rows_below : goal.decreases-rows_below
decreases-rows_below l = length l.rows.now - l.step
