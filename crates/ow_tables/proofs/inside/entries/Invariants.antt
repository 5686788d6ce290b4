use Rattle.std.proofs.Common.{◌≡◌, filter, map, take}
use Rattle.ow_value.specs.View.{views}
use Rattle.ow_entity.specs.Written.{package_entry}
use Rattle.ow_tables.specs.Inside.{lies_under}
use Rattle.ow_tables.proofs.inside.entries.Given as goal

abbrev pub invariant-loop-row : goal.invariant-loop-row
invariant-loop-row l = views l.shown.items ≡ map package_entry (filter (lies_under l.bundle) (take l.row-index l.rows))
