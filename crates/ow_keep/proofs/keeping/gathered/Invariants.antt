use Rattle.std.proofs.Common.{◌≡◌, drop}
use Rattle.std.specs.List.{All}
use Rattle.ow_keep.specs.Known.{IsItem}
use Rattle.ow_keep.specs.Judged.{behind, gathered}
use Rattle.ow_keep.proofs.keeping.gathered.Given as goal

abbrev pub invariant-loop-row : goal.invariant-loop-row
invariant-loop-row l = record {
  so_far : behind l.items.items (gathered l.all (drop l.row-index l.rows)) ≡ gathered l.all l.rows;
  fit : All IsItem l.items.items;
}
