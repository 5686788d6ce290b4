use Rattle.std.proofs.Common.{◌≡◌, ◌-◌, ◌^◌, min, max, drop}
use Rattle.ow_value.specs.Value.{items_depth, members_depth, items_of, members_of}
use Rattle.ow_value.specs.View.{views, pair_views}
use Rattle.ow_value.proofs.walk.+deep.Given as goal

-- the greatest of what was seen and of what is left is that of all
abbrev pub invariant-deepest_item-loop-v : goal.invariant-deepest_item-loop-v
invariant-deepest_item-loop-v l = max l.deepest (min (items_depth (items_of (views (drop l.v-index l.v-items)))) (2 ^ 32 - 1)) ≡ min (items_depth (items_of (views l.v-items))) (2 ^ 32 - 1)

abbrev pub invariant-deepest_member-loop-p : goal.invariant-deepest_member-loop-p
invariant-deepest_member-loop-p l = max l.deepest (min (members_depth (members_of (pair_views (drop l.p-index l.p-items)))) (2 ^ 32 - 1)) ≡ min (members_depth (members_of (pair_views l.p-items))) (2 ^ 32 - 1)
