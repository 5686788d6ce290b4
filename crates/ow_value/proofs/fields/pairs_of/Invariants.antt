use Rattle.std.proofs.Common.{◌≡◌, ◌++◌}
use Rattle.ow_value.specs.View.{pair_views, entry_views}
use Rattle.ow_value.proofs.fields.pairs_of.Given as goal

abbrev pub invariant-loop-name : goal.invariant-loop-name
invariant-loop-name l =
    (goal.iterator-loop-name).can_next l.name-iterator ×
    (goal.iterator-loop-name).is_finite l.name-iterator ×
    (pair_views l.pairs.items ++ entry_views l.name-iterator ≡ entry_views l.fn.entries.entries)
