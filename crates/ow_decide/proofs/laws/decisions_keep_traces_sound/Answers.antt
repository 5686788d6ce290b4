use Rattle.ow_decide.proofs.SoundLaws.{decided_sound}
use Rattle.ow_decide.proofs.laws.decisions_keep_traces_sound.Goals as goal

pub returns : goal.returns
returns c S event sound = decided_sound S event sound
