use Rattle.std.proofs.Common.{◌≡◌, take}
use Rattle.ow_usage.specs.Cells.{AreInOrder, Place, cell_at, counted, counted_at, total, totals_if, totals_of}
use Rattle.ow_usage.proofs.usage.cells.Given as goal

abbrev pub invariant-loop-record : goal.invariant-loop-record
invariant-loop-record l = record {
  order : AreInOrder l.cells;
  each : (place : Place) → cell_at place l.cells ≡ totals_if (counted_at l.from l.to place (take l.record-index l.records));
  total : total l.cells ≡ totals_of (counted l.from l.to (take l.record-index l.records));
}
