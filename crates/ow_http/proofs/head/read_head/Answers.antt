use Rattle.std.proofs.Common.{arith}
use Rattle.ow_http.specs.Head.{long}
use Rattle.ow_http.proofs.head.read_head.Goals as goal

pub returns-else-head-le-MAX_HEAD-clause-bad : goal.returns-else-head-le-MAX_HEAD-clause-bad
returns-else-head-le-MAX_HEAD-clause-bad c =
    let e = rw c.in-Ok-Complete.field-0-is at c.in-Ok-Complete.ensures.complete in
    λ _. long e.0 _ e.1.reads (omega (arith, e.1.len, c.if-head-le-MAX_HEAD.false))
