use Rattle.ow_floor.proofs.Soundness.{sound_items}
use Rattle.ow_floor.proofs.laws.right_items_keep_traces_sound.Goals as goal

pub returns : goal.returns
returns c items T right sound = (sound_items items T right sound).0
