use Rattle.ow_floor.proofs.Sweeping.{late}
use Rattle.ow_floor.proofs.laws.replies_after_a_sweep_are_late.Goals as goal

pub returns : goal.returns
returns c = late
