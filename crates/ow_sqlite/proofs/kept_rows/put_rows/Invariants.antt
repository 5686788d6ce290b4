use Rattle.std.proofs.Common.{◌≡◌, []}
use Rattle.ow_sqlite.specs.Load.{AreTexts, rows_after}
use Rattle.ow_sqlite.proofs.kept_rows.put_rows.Given as goal

abbrev pub invariant-loop-row : goal.invariant-loop-row
invariant-loop-row l = record {
  rows : rows_after l.row-iterator.rest.items l.rows ≡ rows_after l.fn.shown.items [];
  texts : AreTexts l.row-iterator.rest.items → AreTexts l.fn.shown.items;
}
