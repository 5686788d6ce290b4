use Rattle.std.proofs.Common.{◌≡◌, ◌≤◌, ◌+◌, ◌-◌, ◌++◌, drop, length}
use Rattle.ow_value.specs.Find.{merge}
use Rattle.ow_value.specs.View.{pair_views}
use Rattle.ow_value.proofs.join.merged.Given as goal

abbrev pub invariant-merging : goal.invariant-merging
invariant-merging l =
    (l.i ≤ length l.xs) × (l.j ≤ length l.ys)
    × (pair_views l.pairs.items ++ merge (pair_views (drop l.i l.xs)) (pair_views (drop l.j l.ys)) ≡ merge (pair_views l.xs) (pair_views l.ys))

abbrev pub decreases-merging : goal.decreases-merging
decreases-merging l = (length l.xs - l.i) + (length l.ys - l.j)
