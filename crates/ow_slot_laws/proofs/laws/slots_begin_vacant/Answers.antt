use Rattle.ow_slot_laws.proofs.Changing.{begin}
use Rattle.ow_slot_laws.proofs.laws.slots_begin_vacant.Goals as goal

pub returns : goal.returns
returns c = begin
