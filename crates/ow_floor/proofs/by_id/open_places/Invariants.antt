use Rattle.std.proofs.Common.{◌≡◌, ◌++◌, drop}
use Rattle.ow_floor.specs.Ends.{placed}
use Rattle.ow_floor.proofs.by_id.open_places.Given as goal

abbrev pub invariant-loop-place : goal.invariant-loop-place
invariant-loop-place l = l.places.items ++ placed l.place (drop l.place l.tasks) ≡ placed 0 l.tasks
