use Rattle.ow_floor.proofs.laws.slots_are_within_the_pool.Goals as goal

pub returns : goal.returns
returns c T sound = sound.slotted.within
