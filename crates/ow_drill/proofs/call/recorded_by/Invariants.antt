use Rattle.std.proofs.Common.{◌≡◌, take}
use Rattle.std.specs.List.{sum_by}
use Rattle.ow_drill.specs.Drill.{recorded_in}
use Rattle.ow_drill.proofs.call.recorded_by.Given as goal

abbrev pub invariant-loop-step : goal.invariant-loop-step
invariant-loop-step l = l.count ≡ sum_by recorded_in (take l.step-index l.steps)
