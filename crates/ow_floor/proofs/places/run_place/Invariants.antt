use Rattle.std.proofs.Common.{◌≡◌, ◌<◌, ◌≤◌, ℕ, false, get_or, length}
use Rattle.std.specs.Prelude.{Option}
use Rattle.ow_floor.specs.declared.lists.Berth.{Berth}
use Rattle.ow_floor.specs.View.{is_number}
use Rattle.ow_floor.specs.Store.{run_in}
use Rattle.ow_floor.specs.Places.{has}
use Rattle.ow_floor.proofs.places.run_place.Given as goal

abbrev pub invariant-loop-i : goal.invariant-loop-i
invariant-loop-i l = (l.i ≤ length l.runs) × ((d : Option Berth) (j : ℕ) → j < l.i → has run_in (is_number l.run) (get_or l.runs j d) ≡ false)
