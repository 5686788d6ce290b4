use Rattle.std.proofs.Common.{◌≡◌, ◌++◌}
use Rattle.std.specs.Vec.Iter.{into_iter_items}
use Rattle.ow_floor.proofs.resuming.records_of.Given as goal

abbrev pub invariant-loop-ended : goal.invariant-loop-ended
invariant-loop-ended l = (l.yielded ++ into_iter_items l.ended-iterator ≡ into_iter_items l.initial.ended-iterator) × (l.all.items ≡ l.yielded)
