use Rattle.ow_value.proofs.ByTextLaws.{none-rise}
use Rattle.ow_value.proofs.by_text.ByText.new.Goals as goal

pub invariant_of-result : goal.invariant_of-result
invariant_of-result g c = rw c.new.ensures.items none-rise
