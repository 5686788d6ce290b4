use Rattle.std.proofs.Common.{◌≡◌, drop}
use Rattle.ow_keep.specs.Allowed.{has_note}
use Rattle.ow_keep.proofs.allowed.has_note.Given as goal

abbrev pub invariant-loop-row : goal.invariant-loop-row
invariant-loop-row l = has_note (drop l.row-index l.rows) ≡ has_note l.rows
