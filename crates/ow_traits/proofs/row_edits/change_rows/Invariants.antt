use Rattle.std.proofs.Common.{◌≡◌, ◌≤◌, ◌+◌, length, vec_len, vec_capacity}
use Rattle.ow_traits.specs.Rows.{AreRows}
use Rattle.ow_traits.specs.Changes.{changed, old_after}
use Rattle.ow_traits.proofs.row_edits.change_rows.Given as goal

abbrev pub invariant-loop-change : goal.invariant-loop-change
invariant-loop-change l = record {
  items : changed l.change-iterator.rest.items l.rows.items ≡ changed l.fn.changes.items l.fn.rows.items;
  old_items : old_after l.change-iterator.rest.items l.old_rows.items ≡ old_after l.fn.changes.items l.fn.old_rows.items;
  sorted : AreRows l.rows.items;
  old_sorted : AreRows l.old_rows.items;
  room : vec_len l.rows + length l.change-iterator.rest.items ≤ vec_capacity l.rows;
  old_room : vec_len l.old_rows + length l.change-iterator.rest.items ≤ vec_capacity l.old_rows;
}
