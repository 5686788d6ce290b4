use Rattle.std.proofs.Common.{◌≡◌, ◌++◌, take}
use Rattle.ow_http.specs.Reply.{own_lines}
use Rattle.ow_http.proofs.reply.push_headers.Given as goal

abbrev pub invariant-loop-header : goal.invariant-loop-header
invariant-loop-header l = l.out.items ≡ l.fn.out.items ++ own_lines (take l.header-index l.headers)
