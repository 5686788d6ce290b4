use Rattle.ow_floor.proofs.Soundness.{all_recorded}
use Rattle.ow_floor.proofs.laws.when_drained_all_are_recorded.Goals as goal

pub returns : goal.returns
returns c = all_recorded
