use Rattle.std.proofs.Common.{◌≡◌, ◌++◌, List, map, take}
use Rattle.ow_value.specs.View.{views}
use Rattle.ow_deploy.proofs.ValueLaws.{Member, pair_of, value_in}
use Rattle.ow_deploy.proofs.data.+values.Given as goal

abbrev pub invariant-items_value-loop-item : goal.invariant-items_value-loop-item
invariant-items_value-loop-item l = views l.values.items ≡ map value_in (take l.item-index l.item-items)

abbrev pub invariant-members_value-loop-key : goal.invariant-members_value-loop-key
invariant-members_value-loop-key l =
    (goal.iterator-members_value-loop-key).can_next l.key-iterator ×
    (goal.iterator-members_value-loop-key).is_finite l.key-iterator ×
    (done : List Member) × (l.members.entries ≡ done ++ l.key-iterator) × (l.fields ≡ map pair_of done)
