use Rattle.std.proofs.Common.{length}
use Rattle.std.specs.List.{AllByRecursion}
use Rattle.ow_keep.specs.Known.{IsKnownEntity}
use Rattle.ow_keep.proofs.known.known_entities.Given as goal

abbrev pub invariant-loop-rest : goal.invariant-loop-rest
invariant-loop-rest l = AllByRecursion IsKnownEntity l.rest → AllByRecursion IsKnownEntity l.rows

abbrev pub decreases-loop-rest : goal.decreases-loop-rest
decreases-loop-rest l = length l.rest
