use Rattle.std.proofs.Common.{◌≡◌, ◌++◌, drop}
use Rattle.ow_floor.specs.Store.{empty_of}
use Rattle.ow_floor.proofs.lists.empty_places.Given as goal

abbrev pub invariant-loop : goal.invariant-loop
invariant-loop g l = l.places.items ++ empty_of (drop l.index l.cells) ≡ empty_of l.cells
