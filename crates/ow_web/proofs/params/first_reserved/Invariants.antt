use Rattle.std.proofs.Common.{◌≡◌, find, drop}
use Rattle.std.specs.Map.{keys_of}
use Rattle.ow_value.specs.View.{pair_views}
use Rattle.ow_web.specs.Params.{is_reserved}
use Rattle.ow_web.proofs.params.first_reserved.Given as goal

abbrev pub invariant-loop-pair : goal.invariant-loop-pair
invariant-loop-pair l =
    find is_reserved (keys_of (pair_views (drop l.pair-index l.pair-items))) ≡ find is_reserved (keys_of (pair_views l.pair-items))
