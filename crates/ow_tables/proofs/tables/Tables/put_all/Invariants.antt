use Rattle.std.proofs.Common.{◌≡◌, ◌≤◌, length}
use Rattle.ow_tables.specs.Rows.{resumed}
use Rattle.ow_tables.proofs.tables.Tables.put_all.Given as goal

abbrev pub invariant-loop-row : goal.invariant-loop-row
invariant-loop-row l = record {
  rows : resumed l.row-iterator.rest.items l.self.rows ≡ resumed l.fn.rows.items l.fn.self.rows;
  room : length l.row-iterator.rest.items ≤ l.self.room;
}
