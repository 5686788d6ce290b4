use Rattle.std.proofs.Common.{◌≡◌, take}
use Rattle.ow_web.specs.Params.{seen_headers}
use Rattle.ow_web.proofs.params.seen_headers.Given as goal

abbrev pub invariant-loop-header : goal.invariant-loop-header
invariant-loop-header l = l.seen.items ≡ seen_headers (take l.header-index l.headers)
