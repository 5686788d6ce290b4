use Rattle.std.proofs.Common.{◌≡◌, ◌++◌, drop}
use Rattle.ow_value.specs.Value.{items_of}
use Rattle.ow_value.specs.View.{views}
use Rattle.ow_entity.specs.Body.{names_in}
use Rattle.ow_entity.specs.Chain.{result_map}
use Rattle.ow_entity.proofs.components.names_in.Given as goal

abbrev pub invariant-loop-item : goal.invariant-loop-item
invariant-loop-item l =
    result_map (λ ns. l.names.items ++ ns) (names_in l.home (items_of (views (drop l.item-index l.item-items))))
    ≡ names_in l.home (items_of (views l.item-items))
