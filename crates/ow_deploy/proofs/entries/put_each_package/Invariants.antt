use Rattle.std.proofs.Common.{◌≡◌, ◌++◌, map}
use Rattle.toml.specs.View.{members_view}
use Rattle.ow_deploy.specs.Entries.{packages}
use Rattle.ow_deploy.specs.EntryView.{entry_view}
use Rattle.ow_deploy.proofs.entries.put_each_package.Given as goal

abbrev pub invariant-loop-path : goal.invariant-loop-path
invariant-loop-path l =
    (goal.iterator-loop-path).can_next l.path-iterator ×
    (goal.iterator-loop-path).is_finite l.path-iterator ×
    (map entry_view l.entries.items ++ packages l.bound (members_view l.path-iterator)
    ≡ map entry_view l.initial.entries.items ++ packages l.bound (members_view l.table.entries))
