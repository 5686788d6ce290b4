use Rattle.ow_value.proofs.Objects.{AreValues-more}
use Rattle.ow_value.proofs.val.Vals.from_vec.Goals as goal

pub loop-item-preserved : goal.loop-item-preserved
loop-item-preserved c = AreValues-more _ c.loop-item.item-index c.item-item.result c.loop-item-test.true c.item-item.is c.loop-item.invariant c.known.ensures
