use Rattle.std.proofs.Common.{◌≡◌, None, drop}
use Rattle.ow_floor.specs.View.{wait_in}
use Rattle.ow_floor.proofs.places.until.Given as goal

abbrev pub invariant-loop-i : goal.invariant-loop-i
invariant-loop-i l = wait_in l.id (drop l.i l.blocking) ≡ None
