use Rattle.ow_slot_laws.proofs.Standing.{slots_stand}
use Rattle.ow_slot_laws.proofs.laws.slots_stand.Goals as goal

pub returns : goal.returns
returns c = slots_stand
