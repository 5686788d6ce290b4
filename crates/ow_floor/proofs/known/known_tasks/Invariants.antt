use Rattle.std.proofs.Common.{length, IfSome}
use Rattle.std.specs.List.{AllByRecursion}
use Rattle.ow_records.specs.Known.{IsKnownUnrecorded}
use Rattle.ow_records.specs.Unrecorded.{unrecorded_of}
use Rattle.ow_floor.proofs.known.known_tasks.Given as goal

abbrev pub invariant-loop-rest : goal.invariant-loop-rest
invariant-loop-rest l = AllByRecursion (λ t. IfSome t (λ a. IsKnownUnrecorded (unrecorded_of a))) l.rest → AllByRecursion (λ t. IfSome t (λ a. IsKnownUnrecorded (unrecorded_of a))) l.tasks

abbrev pub decreases-loop-rest : goal.decreases-loop-rest
decreases-loop-rest l = length l.rest
