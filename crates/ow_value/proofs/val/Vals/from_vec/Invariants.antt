use Rattle.std.proofs.Common.{take}
use Rattle.ow_value.specs.Json.{AreValues}
use Rattle.ow_value.specs.Value.{items_of}
use Rattle.ow_value.specs.View.{views}
use Rattle.ow_value.proofs.val.Vals.from_vec.Given as goal

abbrev pub invariant-loop-item : goal.invariant-loop-item
invariant-loop-item l = AreValues (items_of (views (take l.item-index l.item-items)))
