use Rattle.ow_floor.proofs.Slotting.{runs_in_slots}
use Rattle.ow_floor.proofs.laws.live_runs_stand_in_slots.Goals as goal

pub returns : goal.returns
returns c T sound = runs_in_slots T sound.slotted
