use Rattle.std.proofs.Common.{◌≡◌, drop}
use Rattle.toml.specs.View.{items_view, members_view}
use Rattle.ow_deploy.specs.Values.{are_plain_items, are_plain_members}
use Rattle.ow_deploy.proofs.data.+kinds.Given as goal

abbrev pub invariant-are_plain_items-loop-item : goal.invariant-are_plain_items-loop-item
invariant-are_plain_items-loop-item l =
    are_plain_items (items_view (drop l.item-index l.item-items)) ≡ are_plain_items (items_view l.item-items)

abbrev pub invariant-are_plain_members-loop-key : goal.invariant-are_plain_members-loop-key
invariant-are_plain_members-loop-key l =
    (goal.iterator-are_plain_members-loop-key).can_next l._key-iterator ×
    (goal.iterator-are_plain_members-loop-key).is_finite l._key-iterator ×
    (are_plain_members (members_view l._key-iterator) ≡ are_plain_members (members_view l.members.entries))
