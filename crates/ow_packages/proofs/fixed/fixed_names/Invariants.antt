use Rattle.std.proofs.Common.{◌≡◌, filter, take}
use Rattle.std.specs.Map.{keys_of}
use Rattle.ow_value.specs.View.{pair_views}
use Rattle.ow_packages.specs.Fixed.{is_fixed}
use Rattle.ow_packages.proofs.fixed.fixed_names.Given as goal

abbrev pub invariant-loop-pair : goal.invariant-loop-pair
invariant-loop-pair l = l.names.items ≡ filter (is_fixed l.e l.web) (keys_of (pair_views (take l.pair-index l.pair-items)))
