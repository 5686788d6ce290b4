use Rattle.std.proofs.Common.{◌≡◌, length}
use Rattle.ow_floor.specs.Undoable.{undone}
use Rattle.ow_floor.proofs.undoable.take_all_back.Given as goal

abbrev pub invariant-loop-step : goal.invariant-loop-step
invariant-loop-step g l = undone l.steps.items l.items.items ≡ undone l.fn.steps.items l.fn.items.items

abbrev pub decreases-loop-step : goal.decreases-loop-step
decreases-loop-step g l = length l.steps.items
