use Rattle.ow_slots.proofs.KeyLaws.{key_told}
use Rattle.ow_slots.proofs.laws.same_keys_are_equal.Goals as goal

pub returns : goal.returns
returns c = key_told
