use Rattle.std.proofs.Common.{arith}
use Rattle.ow_schedule.proofs.next.next_of_period.Goals as goal

pub returns-else-wait-until : goal.returns-else-wait-until
returns-else-wait-until c = λ e ge le due. c.wait_of-wait.ensures.none_before e ge (omega arith) due
