use Rattle.std.proofs.Common.{◌≡◌, ◌+◌, ◌-◌, ◌^◌, min, drop, length, false}
use Rattle.serde_json.specs.Written.{items_text, members_text}
use Rattle.ow_value.specs.Text.{items_data, members_data}
use Rattle.ow_value.specs.Value.{items_of, members_of}
use Rattle.ow_value.specs.View.{views, pair_views}
use Rattle.ow_value.proofs.measure.+sizes.Given as goal

-- what was counted, and what is left, is the whole
abbrev pub invariant-items_size-loop-v : goal.invariant-items_size-loop-v
invariant-items_size-loop-v l = min (l.total + length (items_text l.later (items_data (items_of (views (drop l.v-index l.v-items)))))) (2 ^ 64 - 1) ≡ min (length (items_text false (items_data (items_of (views l.v-items))))) (2 ^ 64 - 1)

abbrev pub invariant-members_size-loop-p : goal.invariant-members_size-loop-p
invariant-members_size-loop-p l = min (l.total + length (members_text l.later (members_data (members_of (pair_views (drop l.p-index l.p-items)))))) (2 ^ 64 - 1) ≡ min (length (members_text false (members_data (members_of (pair_views l.p-items))))) (2 ^ 64 - 1)
