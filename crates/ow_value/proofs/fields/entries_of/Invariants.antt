use Rattle.std.proofs.Common.{◌≡◌, take}
use Rattle.ow_value.specs.View.{pair_views, entry_views}
use Rattle.ow_value.proofs.fields.entries_of.Given as goal

abbrev pub invariant-loop-pair : goal.invariant-loop-pair
invariant-loop-pair l = entry_views l.entries.entries ≡ pair_views (take l.pair-index l.pairs)
