use Rattle.std.proofs.Common.{◌≡◌}
use Rattle.toml.specs.View.{members_view}
use Rattle.ow_deploy.specs.Manifest.{wrong_name}
use Rattle.ow_deploy.proofs.top.wrong_name.Given as goal

abbrev pub invariant-loop-name : goal.invariant-loop-name
invariant-loop-name l =
    (goal.iterator-loop-name).can_next l.name-iterator ×
    (goal.iterator-loop-name).is_finite l.name-iterator ×
    (wrong_name (members_view l.name-iterator) ≡ wrong_name (members_view l.top.entries))
