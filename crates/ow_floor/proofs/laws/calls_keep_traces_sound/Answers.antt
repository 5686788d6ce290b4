use Rattle.ow_floor.proofs.Coming.{calls_keep_sound}
use Rattle.ow_floor.proofs.laws.calls_keep_traces_sound.Goals as goal

pub returns : goal.returns
returns c = calls_keep_sound
