use Rattle.std.proofs.Common.{arith}
use Rattle.ow_counts.proofs.Moving.{all_rooms}
use Rattle.ow_counts.proofs.counts.end_in.Goals as goal

pub returns-then-concurrent-gt0-clause-notes : goal.returns-then-concurrent-gt0-clause-notes
returns-then-concurrent-gt0-clause-notes c ns less h = c.ended.ensures.notes ns h

pub returns-then-concurrent-gt0-clause-room : goal.returns-then-concurrent-gt0-clause-room
returns-then-concurrent-gt0-clause-room c name n h =
    all_rooms c.args.namespace.now c.args.windows.now c.ended.new.self n n (omega arith) c.ended.ensures.others (c.ended.ensures.room n n) name h

pub returns-else-concurrent-gt0-clause-notes : goal.returns-else-concurrent-gt0-clause-notes
returns-else-concurrent-gt0-clause-notes c ns less h = absurd (omega (arith, less, c.concurrent.ensures.notes ns h, c.if-concurrent-gt0.false))
