use Rattle.std.proofs.Common.{◌≡◌}
use Rattle.ow_keep.specs.Split.{joined_parts, parts_of, split}
use Rattle.ow_keep.proofs.kept.split.Given as goal

abbrev pub invariant-loop-item : goal.invariant-loop-item
invariant-loop-item l = joined_parts (parts_of l.kept) (split l.item-iterator.rest.items) ≡ split l.fn.items.items
