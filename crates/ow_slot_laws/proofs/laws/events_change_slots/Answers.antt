use Rattle.ow_slot_laws.proofs.Changing.{changes}
use Rattle.ow_slot_laws.proofs.laws.events_change_slots.Goals as goal

pub returns : goal.returns
returns c = changes
