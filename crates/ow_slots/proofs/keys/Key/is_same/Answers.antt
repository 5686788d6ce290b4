use Rattle.ow_slots.proofs.KeyLaws.{told}
use Rattle.ow_slots.proofs.keys.Key.is_same.Goals as goal

pub returns-clause-value : goal.returns-clause-value
returns-clause-value c = told c.same.result c.args.self.now c.args.other.now c.same.ensures
