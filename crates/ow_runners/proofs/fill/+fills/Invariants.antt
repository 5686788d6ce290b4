use Rattle.std.proofs.Common.{◌≡◌, ◌+◌, ◌*◌, map, take}
use Rattle.ow_value.specs.Value.{depth, items_depth, members_depth, items_of, members_of}
use Rattle.ow_value.specs.View.{view, views}
use Rattle.ow_runners.proofs.Filling.{filled_value, filled_pair}
use Rattle.ow_runners.proofs.fill.+fills.Given as goal

abbrev pub decreases-fill : goal.decreases-fill
decreases-fill l = 2 * depth (view l.template.now)

abbrev pub decreases-fill_items : goal.decreases-fill_items
decreases-fill_items l = 2 * items_depth (items_of l.items.now) + 1

abbrev pub decreases-fill_members : goal.decreases-fill_members
decreases-fill_members l = 2 * members_depth (members_of l.members.now) + 1

abbrev pub invariant-fill_items-loop-template : goal.invariant-fill_items-loop-template
invariant-fill_items-loop-template l = views l.values.items ≡ map (filled_value l.params) (take l.template-index l.template-items)

abbrev pub invariant-fill_members-loop-pair : goal.invariant-fill_members-loop-pair
invariant-fill_members-loop-pair l = l.fields ≡ map (filled_pair l.params) (take l.pair-index l.pair-items)
