use Rattle.ow_floor.proofs.Soundness.{parted}
use Rattle.ow_floor.proofs.floor.Floor.parts_accepted.Goals as goal

pub returns-clause-parts : goal.returns-clause-parts
returns-clause-parts c T st = parted T st.sound
