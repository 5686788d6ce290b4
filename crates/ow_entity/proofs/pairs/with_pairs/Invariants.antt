use Rattle.std.proofs.Common.{◌≡◌, option_map, drop, []}
use Rattle.ow_value.specs.Value.{items_of}
use Rattle.ow_value.specs.View.{views}
use Rattle.ow_entity.specs.Pairs.{pairs_listed, with_pairs}
use Rattle.ow_entity.proofs.pairs.with_pairs.Given as goal

abbrev pub invariant-loop-item : goal.invariant-loop-item
invariant-loop-item l =
    option_map (with_pairs l.pairs) (pairs_listed (items_of (views (drop l.item-index l.item-items))))
    ≡ option_map (with_pairs []) (pairs_listed (items_of (views l.item-items)))
