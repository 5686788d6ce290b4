use Rattle.std.proofs.Common.{◌≡◌, drop}
use Rattle.ow_value.specs.Value.{items_of}
use Rattle.ow_value.specs.View.{views}
use Rattle.ow_entity.specs.Body.{are_texts}
use Rattle.ow_entity.proofs.components.are_texts.Given as goal

abbrev pub invariant-loop-item : goal.invariant-loop-item
invariant-loop-item l =
    are_texts (items_of (views (drop l.item-index l.item-items))) ≡ are_texts (items_of (views l.item-items))
