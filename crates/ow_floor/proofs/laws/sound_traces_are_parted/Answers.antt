use Rattle.ow_floor.proofs.Soundness.{parted}
use Rattle.ow_floor.proofs.laws.sound_traces_are_parted.Goals as goal

pub returns : goal.returns
returns c = parted
