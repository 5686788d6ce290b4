use Rattle.std.proofs.Common.{◌≡◌, map, take}
use Rattle.ow_value.specs.View.{pair_views}
use Rattle.ow_web.specs.WebOut.{as_header}
use Rattle.ow_web.proofs.web_out.as_headers.Given as goal

abbrev pub invariant-loop-pair : goal.invariant-loop-pair
invariant-loop-pair l = l.headers.items ≡ map as_header (pair_views (take l.pair-index l.members))
