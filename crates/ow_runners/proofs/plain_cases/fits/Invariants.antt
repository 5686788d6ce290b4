use Rattle.std.proofs.Common.{◌≡◌, drop}
use Rattle.ow_value.specs.View.{pair_views}
use Rattle.ow_runners.specs.PlainReply.{fits}
use Rattle.ow_runners.proofs.plain_cases.fits.Given as goal

-- what is left decides
abbrev pub invariant-loop-pair : goal.invariant-loop-pair
invariant-loop-pair l = fits l.params (pair_views (drop l.pair-index l.pair-items)) ≡ fits l.params (pair_views l.pair-items)
