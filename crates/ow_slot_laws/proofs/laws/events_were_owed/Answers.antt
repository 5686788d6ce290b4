use Rattle.ow_slot_laws.proofs.Owing.{falls, rises}
use Rattle.ow_slot_laws.proofs.laws.events_were_owed.Goals as goal

pub returns : goal.returns
returns c = record { rise = rises; fall = falls }
