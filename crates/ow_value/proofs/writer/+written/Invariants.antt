use Rattle.std.proofs.Common.{◌≡◌, ◌++◌, drop}
use Rattle.ow_value.specs.Text.{items_tokens, members_tokens}
use Rattle.ow_value.specs.Value.{items_of, members_of}
use Rattle.ow_value.specs.View.{views, pair_views}
use Rattle.ow_value.proofs.writer.+written.Given as goal

-- what was written, and what is left, is the whole
abbrev pub invariant-write_items-loop-v : goal.invariant-write_items-loop-v
invariant-write_items-loop-v l =
    (l.out.before ≡ l.initial.out.before)
    × (l.out.tokens ++ items_tokens (items_of (views (drop l.v-index l.v-items))) ≡ l.initial.out.tokens ++ items_tokens (items_of (views l.v-items)))

abbrev pub invariant-write_members-loop-p : goal.invariant-write_members-loop-p
invariant-write_members-loop-p l =
    (l.out.before ≡ l.initial.out.before)
    × (l.out.tokens ++ members_tokens (members_of (pair_views (drop l.p-index l.p-items))) ≡ l.initial.out.tokens ++ members_tokens (members_of (pair_views l.p-items)))
