use Rattle.std.proofs.Common.{◌≡◌, map, take}
use Rattle.ow_value.specs.View.{pair_views, views}
use Rattle.ow_entity.specs.Pairs.{pair_value}
use Rattle.ow_entity.proofs.pairs.listed.Given as goal

abbrev pub invariant-loop-pair : goal.invariant-loop-pair
invariant-loop-pair l = views l.items.items ≡ map pair_value (pair_views (take l.pair-index l.pair-items))
