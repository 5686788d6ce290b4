use Rattle.std.proofs.Common.{◌≡◌, length}
use Rattle.ow_floor.specs.Undoable.{restored}
use Rattle.ow_floor.proofs.kept_slots.restore_all.Given as goal

abbrev pub invariant-loop-step : goal.invariant-loop-step
invariant-loop-step l = restored l.steps.items l.slots ≡ restored l.fn.steps.items l.fn.slots

abbrev pub decreases-loop-step : goal.decreases-loop-step
decreases-loop-step l = length l.steps.items
