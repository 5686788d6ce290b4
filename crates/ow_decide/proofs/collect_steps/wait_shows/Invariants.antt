use Rattle.std.proofs.Common.{◌≡◌, None, drop}
use Rattle.ow_decide.specs.Waiting.{wait_shows}
use Rattle.ow_decide.proofs.collect_steps.wait_shows.Given as goal

abbrev pub invariant-loop-i : goal.invariant-loop-i
invariant-loop-i l = wait_shows l.id (drop l.i l.waits) ≡ None
