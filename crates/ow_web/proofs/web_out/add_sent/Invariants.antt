use Rattle.std.proofs.Common.{◌≡◌, ◌++◌, filter, take}
use Rattle.ow_web.specs.WebOut.{is_sent}
use Rattle.ow_web.proofs.web_out.add_sent.Given as goal

abbrev pub invariant-loop-header : goal.invariant-loop-header
invariant-loop-header l = l.sent.items ≡ l.initial.sent.items ++ filter is_sent (take l.header-index l.headers)
