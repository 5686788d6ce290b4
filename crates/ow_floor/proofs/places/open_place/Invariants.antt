use Rattle.std.proofs.Common.{◌≡◌, take, None}
use Rattle.std.specs.List.{find}
use Rattle.ow_floor.specs.View.{is_of}
use Rattle.ow_floor.specs.Store.{opens}
use Rattle.ow_floor.proofs.places.open_place.Given as goal

abbrev pub invariant-loop-i : goal.invariant-loop-i
invariant-loop-i l = find (is_of l.id) (opens (take l.i l.spots) (take l.i l.tasks)) ≡ None
