use Rattle.ow_traits.proofs.Keys.{AreRows-none}
use Rattle.ow_traits.proofs.row_list.Rows.new.Goals as goal

pub invariant_of-result : goal.invariant_of-result
invariant_of-result c = rw c.new.ensures.items AreRows-none
