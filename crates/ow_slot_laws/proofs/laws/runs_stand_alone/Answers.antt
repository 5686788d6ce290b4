use Rattle.ow_slot_laws.proofs.Standing.{runs_stand}
use Rattle.ow_slot_laws.proofs.laws.runs_stand_alone.Goals as goal

pub returns : goal.returns
returns c = runs_stand
